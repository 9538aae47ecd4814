use Rattle.std.proofs.Common.{◌≡◌, drop}
use Rattle.vap_read.specs.Keys.{is_of}
use Rattle.vap_read_objects.specs.Classes.{all_miss}
use Rattle.vap_read_objects.proofs.missed_kinds.all_miss_kind.Given as goal

abbrev pub invariant-loop-event : goal.invariant-loop-event
invariant-loop-event l =
    all_miss (is_of l.api_version l.kind) (drop l.event-index l.events) ≡ all_miss (is_of l.api_version l.kind) l.events
