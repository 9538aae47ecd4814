use Rattle.std.proofs.Common.{◌≡◌, ◌<◌, ◌≤◌, ◌^◌, ◌*◌, ◌-◌}
use Rattle.cel_value.proofs.reading.in_billionths.Given as goal

abbrev pub invariant-places : goal.invariant-places
invariant-places l =
    (l.value ≡ l.number * 10 ^ (l.counter - l.places)) × (l.value < 10 ^ l.counter) × (l.places ≤ l.counter)
