use Rattle.std.proofs.Common.{◌≡◌, false, drop, filter, map}
use Rattle.vap_read_objects.specs.Classes.{has_other_name}
use Rattle.vap_policy_set.specs.Still.{named_of}
use Rattle.vap_policy_set.proofs.changes.Kept.next_old.Given as goal

abbrev pub invariant-loop-at : goal.invariant-loop-at
invariant-loop-at l =
    l.self.changed.now.all ≡ false → filter (has_other_name l.self.changed.now.names.items) (map named_of (drop l.at l.rest))
    ≡ filter (has_other_name l.self.changed.now.names.items) (map named_of l.rest)
