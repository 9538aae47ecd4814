use Rattle.std.proofs.Common.{◌≡◌, ◌≤◌, ◌+◌, ◌++◌, drop, sum_by}
use Rattle.vap_policy_programs.specs.Pairs.{check_estimate, most}
use Rattle.vap_policy_programs.specs.Ready.{AreChecksAt}
use Rattle.vap_policy_evaluation.specs.Validations.{failures_from, check_charge}
use Rattle.vap_policy_evaluation.proofs.validations.validate_all.Given as goal

abbrev pub ghost-validate : goal.ghost-validate
ghost-validate g a = g.types

abbrev pub invariant-loop-check : goal.invariant-loop-check
invariant-loop-check g l =
    (l.failures.items ++ failures_from l.policy l.slots l.index (drop l.check-index l.checks)
    ≡ l.initial.failures.items ++ failures_from l.policy l.slots 0 l.checks)
    × (l.charged + sum_by (check_charge l.slots) (drop l.check-index l.checks) ≡ sum_by (check_charge l.slots) l.checks)
    × (l.charged + sum_by check_estimate (drop l.check-index l.checks) ≤ sum_by check_estimate l.checks)
    × (l.charged ≤ most)
    × (l.index ≡ l.check-index)
    × AreChecksAt g.types (drop l.check-index l.checks)
