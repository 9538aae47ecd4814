use Rattle.std.proofs.Common.{◌≡◌, drop}
use Rattle.vap_policy_programs.specs.Pairs.{each, behind, check_of}
use Rattle.vap_policy_programs.proofs.validations.compile_checks.Given as goal

abbrev pub invariant-loop-validation : goal.invariant-loop-validation
invariant-loop-validation l =
    behind l.made.items (each (check_of l.choice l.names) (drop l.validation-index l.validations))
    ≡ each (check_of l.choice l.names) l.validations
