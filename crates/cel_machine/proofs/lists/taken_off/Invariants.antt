use Rattle.std.proofs.Common.{◌≡◌, ◌+◌, ◌≤◌, [], length}
use Rattle.cel_code.specs.Machine.{taken_off}
use Rattle.cel_machine.proofs.lists.taken_off.Given as goal

-- what is left to take decides, and there is room for it
abbrev pub invariant-loop-left : goal.invariant-loop-left
invariant-loop-left l =
    (taken_off l.left l.taken.items l.stack.items ≡ taken_off l.count [] l.initial.stack.items)
    × (length l.taken.items + l.left ≡ l.count) × (l.taken.room ≡ l.count) × (l.stack.room ≡ l.initial.stack.room)
    × (length l.stack.items ≤ length l.initial.stack.items)

abbrev pub decreases-loop-left : goal.decreases-loop-left
decreases-loop-left l = l.left
