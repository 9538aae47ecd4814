use Rattle.std.proofs.Common.{◌≡◌, ◌<◌, ◌^◌, ◌-◌, ◌++◌, string_bytes}
use Rattle.cel_value.specs.Printed.{fraction_digits}
use Rattle.cel_value.proofs.printing.put_fraction.Given as goal

abbrev pub invariant-places : goal.invariant-places
invariant-places l =
    (string_bytes l.text ++ fraction_digits (9 - l.counter) l.left ≡ string_bytes l.initial.text ++ fraction_digits 9 l.billionths)
    × (l.place ≡ 10 ^ (9 - l.counter)) × (l.left < l.place)
