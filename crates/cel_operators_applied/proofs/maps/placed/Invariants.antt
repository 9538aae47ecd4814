use Rattle.std.proofs.Common.{◌≡◌, [], length, reverse}
use Rattle.cel_operators.specs.Maps.{placed_among}
use Rattle.cel_operators_applied.proofs.maps.placed.Given as goal

-- what is left is placed among what there is
abbrev pub invariant-loop-entry : goal.invariant-loop-entry
invariant-loop-entry l = placed_among l.map (reverse l.entries) ≡ placed_among [] (reverse l.initial.entries)

abbrev pub decreases-loop-entry : goal.decreases-loop-entry
decreases-loop-entry l = length l.entries
