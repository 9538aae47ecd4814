use Rattle.std.proofs.Common.{drop}
use Rattle.vap_policy_set.specs.Patterns.{of_policies}
use Rattle.vap_policy_set.proofs.Asked.{Leaves}
use Rattle.vap_policy_set.proofs.literal_patterns.ask_policies.Given as goal

abbrev pub invariant-loop-policy : goal.invariant-loop-policy
invariant-loop-policy l =
    Leaves (of_policies l.policies) (of_policies (drop l.policy-index l.policies)) l.initial.patterns l.patterns
