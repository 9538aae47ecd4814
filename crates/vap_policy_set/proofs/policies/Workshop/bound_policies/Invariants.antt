use Rattle.std.proofs.Common.{◌≡◌, ◌++◌, drop, map}
use Rattle.vap_policy_set.specs.Sets.{bound_of}
use Rattle.vap_policy_set.proofs.policies.Workshop.bound_policies.Given as goal

abbrev pub invariant-loop-at : goal.invariant-loop-at
invariant-loop-at l =
    l.bound.items ++ map (bound_of l.choice l.self.kinds.now l.bindings) (drop l.at l.read.policies)
    ≡ map (bound_of l.choice l.self.kinds.now l.bindings) l.read.policies
