use Rattle.std.proofs.Common.{◌≡◌, ◌≤◌, ◌+◌, ◌++◌, drop, [], sum_by}
use Rattle.cel_operators_applied.specs.Lent.{all_lent}
use Rattle.cel_expression.specs.Expressions.{estimate_at}
use Rattle.vap_policy_programs.specs.Pairs.{most}
use Rattle.vap_policy_evaluation.specs.CanRun.{CanRun}
use Rattle.vap_policy_evaluation.specs.Variables.{values_from, values_charge}
use Rattle.vap_policy_evaluation.proofs.variables.evaluate.Given as goal

abbrev pub invariant-loop-variable : goal.invariant-loop-variable
invariant-loop-variable g l =
    (values_from l.values.items (drop l.variable-index l.variables) (all_lent l.lent) ≡ values_from [] l.variables (all_lent l.lent))
    × (l.charged + values_charge l.values.items (drop l.variable-index l.variables) (all_lent l.lent)
    ≡ values_charge [] l.variables (all_lent l.lent))
    × (l.charged + sum_by estimate_at (drop l.variable-index l.variables) ≤ sum_by estimate_at l.variables)
    × (l.charged ≤ most)
    × CanRun (drop l.variable-index l.variables) (all_lent l.lent ++ l.values.items) g.types.1
