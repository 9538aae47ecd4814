use Rattle.std.proofs.Common.{◌≡◌, drop}
use Rattle.vap_read_objects.specs.Classes.{is_one_of}
use Rattle.vap_policy_set.proofs.changed_policies.is_one_of.Given as goal

abbrev pub invariant-loop-other : goal.invariant-loop-other
invariant-loop-other l = is_one_of (drop l.other-index l.names) l.name ≡ is_one_of l.names l.name
