use Rattle.std.proofs.Common.{◌≡◌, drop}
use Rattle.vap_read_objects.specs.Classes.{all_miss, is_rule}
use Rattle.vap_read_objects.proofs.missed_rules.all_miss_rules.Given as goal

abbrev pub invariant-loop-event : goal.invariant-loop-event
invariant-loop-event l = all_miss is_rule (drop l.event-index l.events) ≡ all_miss is_rule l.events
