use Rattle.std.proofs.Common.{◌≡◌, ◌<◌, ◌+◌, ◌-◌, ◌^◌, min, drop, sum_by}
use Rattle.vap_policy_programs.specs.Pairs.{annotation_estimate}
use Rattle.vap_policy_programs.proofs.prices.price_of_annotations.Given as goal

abbrev pub invariant-loop-annotation : goal.invariant-loop-annotation
invariant-loop-annotation l =
    (l.price < 2 ^ 64)
    × (min (l.price + sum_by annotation_estimate (drop l.annotation-index l.annotations)) (2 ^ 64 - 1)
    ≡ min (sum_by annotation_estimate l.annotations) (2 ^ 64 - 1))
