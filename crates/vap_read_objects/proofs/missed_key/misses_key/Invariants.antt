use Rattle.std.proofs.Common.{◌≡◌, drop}
use Rattle.vap_read_objects.specs.Classes.{all_miss, is_key}
use Rattle.vap_read_objects.proofs.missed_key.misses_key.Given as goal

abbrev pub invariant-loop-event : goal.invariant-loop-event
invariant-loop-event l = all_miss (is_key l.key) (drop l.event-index l.events) ≡ all_miss (is_key l.key) l.events
