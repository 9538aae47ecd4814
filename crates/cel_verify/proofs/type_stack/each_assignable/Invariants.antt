use Rattle.std.proofs.Common.{◌≡◌, ◌≤◌, length, take, reverse}
use Rattle.cel_verify.specs.StackTypes.{all_assignable}
use Rattle.cel_verify.proofs.type_stack.each_assignable.Given as goal

abbrev pub invariant-loop-left : goal.invariant-loop-left
invariant-loop-left l =
    (l.left ≤ length l.from)
    × (all_assignable (reverse l.from) (reverse l.to) ≡ all_assignable (reverse (take l.left l.from)) (reverse (take l.left l.to)))

abbrev pub decreases-loop-left : goal.decreases-loop-left
decreases-loop-left l = l.left
