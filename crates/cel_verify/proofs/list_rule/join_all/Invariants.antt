use Rattle.std.proofs.Common.{◌≡◌, length}
use Rattle.cel_operators.specs.Lists.{join_behind, join_all}
use Rattle.cel_verify.proofs.list_rule.join_all.Given as goal

-- the types that are left are joined with what there is
abbrev pub invariant-loop-cel_type : goal.invariant-loop-cel_type
invariant-loop-cel_type l = join_behind l.joined l.items ≡ join_all l.initial.items

abbrev pub decreases-loop-cel_type : goal.decreases-loop-cel_type
decreases-loop-cel_type l = length l.items
