use Rattle.std.proofs.Common.{◌≡◌, drop}
use Rattle.cel_operators.specs.PatternChoice.{refuses}
use Rattle.vap_policy_set.specs.Patterns.{of_policies}
use Rattle.vap_policy_set.proofs.literal_patterns.is_own.Given as goal

abbrev pub invariant-loop-policy : goal.invariant-loop-policy
invariant-loop-policy l =
    refuses (of_policies (drop l.policy-index l.policies)) l.text ≡ refuses (of_policies l.policies) l.text
