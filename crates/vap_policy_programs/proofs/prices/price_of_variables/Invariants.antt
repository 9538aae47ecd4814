use Rattle.std.proofs.Common.{◌≡◌, ◌<◌, ◌+◌, ◌-◌, ◌^◌, min, drop, sum_by}
use Rattle.cel_expression.specs.Expressions.{estimate_at}
use Rattle.vap_policy_programs.proofs.prices.price_of_variables.Given as goal

abbrev pub invariant-loop-variable : goal.invariant-loop-variable
invariant-loop-variable l =
    (l.price < 2 ^ 64)
    × (min (l.price + sum_by estimate_at (drop l.variable-index l.variables)) (2 ^ 64 - 1)
    ≡ min (sum_by estimate_at l.variables) (2 ^ 64 - 1))
