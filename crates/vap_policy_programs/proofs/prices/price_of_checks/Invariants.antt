use Rattle.std.proofs.Common.{◌≡◌, ◌<◌, ◌+◌, ◌-◌, ◌^◌, min, drop, sum_by}
use Rattle.vap_policy_programs.specs.Pairs.{check_estimate}
use Rattle.vap_policy_programs.proofs.prices.price_of_checks.Given as goal

abbrev pub invariant-loop-check : goal.invariant-loop-check
invariant-loop-check l =
    (l.price < 2 ^ 64)
    × (min (l.price + sum_by check_estimate (drop l.check-index l.checks)) (2 ^ 64 - 1) ≡ min (sum_by check_estimate l.checks) (2 ^ 64 - 1))
