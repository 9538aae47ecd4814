use Rattle.std.proofs.Common.{◌≡◌, ◌++◌, drop}
use Rattle.std.specs.List.{flat_map}
use Rattle.vap_policy_set.specs.Patterns.{of_validation}
use Rattle.vap_policy_set.proofs.texts.gather_validations.Given as goal

abbrev pub invariant-loop-validation : goal.invariant-loop-validation
invariant-loop-validation l =
    l.texts.items ++ flat_map of_validation (drop l.validation-index l.validations)
    ≡ l.initial.texts.items ++ flat_map of_validation l.validations
