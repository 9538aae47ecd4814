use Rattle.std.proofs.Common.{◌≡◌, drop, if◌then◌else◌}
use Rattle.std.specs.Option.{option_map}
use Rattle.cel_operators.specs.Operators.{left_of, lesser_int, greater_int}
use Rattle.cel_operators.specs.Wants.{wholes_of}
use Rattle.cel_operators_applied.proofs.aggregates.extreme_of_wholes.Given as goal

abbrev pub invariant-loop-item : goal.invariant-loop-item
invariant-loop-item l =
    option_map (left_of (if l.least then lesser_int else greater_int) l.best) (wholes_of (drop l.item-index l.rest))
    ≡ option_map (left_of (if l.least then lesser_int else greater_int) l.initial.best) (wholes_of l.rest)
