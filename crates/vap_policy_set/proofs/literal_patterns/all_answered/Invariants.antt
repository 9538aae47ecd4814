use Rattle.std.proofs.Common.{drop}
use Rattle.cel_check.specs.PatternTexts.{AreAnswered}
use Rattle.vap_policy_set.specs.Patterns.{of_policies}
use Rattle.vap_policy_set.proofs.literal_patterns.all_answered.Given as goal

-- once those of the policies that are left were answered, all were
abbrev pub invariant-loop-policy : goal.invariant-loop-policy
invariant-loop-policy l =
    AreAnswered l.patterns (of_policies (drop l.policy-index l.policies)) → AreAnswered l.patterns (of_policies l.policies)
