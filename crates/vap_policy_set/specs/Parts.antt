-- The part of a choice that a policy is read by.
use Rattle.std.specs.Prelude.{ℕ, List, filter}
use Rattle.cel_operators.specs.PatternChoice.{refuses}
use Rattle.vap_read.specs.declared.policy.PolicySpec.{PolicySpec}
use Rattle.vap_policy_set.specs.Patterns.{of_policy}
use Rattle.vap_policy_set.specs.declared.choice.Choice.{Choice}

-- of the literal texts that `matches` is given in a policy, those that a choice refuses
unfoldable pub part_of : Choice → PolicySpec → List (List ℕ)
part_of choice p = filter (refuses choice.refused) (of_policy p)

-- the refused ones of these texts that are among others
abbrev pub refused_among : List (List ℕ) → List (List ℕ) → List (List ℕ)
refused_among texts refused = filter (refuses texts) refused
