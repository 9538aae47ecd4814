use Rattle.std.proofs.Common.{◌≡◌, length}
use Rattle.std.specs.Prelude.{reverse}
use Rattle.cel_operators.specs.Lists.{join_behind, join_all}
use Rattle.cel_operators.specs.Maps.{values_by_turns}
use Rattle.cel_verify.proofs.map_rule.join_values.Given as goal

-- the values that are left are joined with what there is
abbrev pub invariant-loop-below : goal.invariant-loop-below
invariant-loop-below l = join_behind l.joined (values_by_turns (reverse l.rest)) ≡ join_all (values_by_turns (reverse l.entries))

abbrev pub decreases-loop-below : goal.decreases-loop-below
decreases-loop-below l = length l.rest
