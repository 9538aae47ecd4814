use Rattle.std.proofs.Common.{◌≡◌, drop, min, max, if◌then◌else◌}
use Rattle.std.specs.Option.{option_map}
use Rattle.cel_operators.specs.Operators.{left_of}
use Rattle.cel_operators.specs.Wants.{naturals_of}
use Rattle.cel_operators_applied.proofs.aggregates.extreme_of_naturals.Given as goal

abbrev pub invariant-loop-item : goal.invariant-loop-item
invariant-loop-item l =
    option_map (left_of (if l.least then min else max) l.best) (naturals_of (drop l.item-index l.rest))
    ≡ option_map (left_of (if l.least then min else max) l.initial.best) (naturals_of l.rest)
