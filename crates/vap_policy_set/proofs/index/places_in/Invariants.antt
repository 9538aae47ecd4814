use Rattle.std.proofs.Common.{◌++◌, drop}
use Rattle.vap_policy_set.specs.Places.{NameSame}
use Rattle.vap_policy_set.specs.PolicyCovering.{places_in}
use Rattle.vap_policy_set.proofs.index.places_in.Given as goal

abbrev pub invariant-loop-policy : goal.invariant-loop-policy
invariant-loop-policy l = NameSame (l.places.items ++ places_in (drop l.policy-index l.policies)) (places_in l.policies)
