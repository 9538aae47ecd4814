use Rattle.std.proofs.Common.{◌≡◌, ◌++◌, drop}
use Rattle.vap_policy_set.specs.Parts.{refused_among}
use Rattle.vap_policy_set.specs.Patterns.{of_policies}
use Rattle.vap_policy_set.proofs.literal_patterns.refused_among.Given as goal

abbrev pub invariant-loop-text : goal.invariant-loop-text
invariant-loop-text l =
    l.own.items ++ refused_among (of_policies l.policies) (drop l.text-index l.refused)
    ≡ refused_among (of_policies l.policies) l.refused
