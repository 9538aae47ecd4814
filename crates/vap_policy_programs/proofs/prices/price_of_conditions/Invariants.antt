use Rattle.std.proofs.Common.{◌≡◌, ◌<◌, ◌+◌, ◌-◌, ◌^◌, min, drop, sum_by}
use Rattle.vap_policy_programs.specs.Pairs.{condition_estimate}
use Rattle.vap_policy_programs.proofs.prices.price_of_conditions.Given as goal

abbrev pub invariant-loop-condition : goal.invariant-loop-condition
invariant-loop-condition l =
    (l.price < 2 ^ 64)
    × (min (l.price + sum_by condition_estimate (drop l.condition-index l.conditions)) (2 ^ 64 - 1)
    ≡ min (sum_by condition_estimate l.conditions) (2 ^ 64 - 1))
