use Rattle.std.proofs.Common.{◌≡◌, ◌≤◌, [], length, Some, Ok}
use Rattle.cel_operators_applied.specs.Pairs.{entries_off, turned}
use Rattle.cel_machine.proofs.maps.entries_off.Given as goal

-- what is left to take decides, after what was taken
abbrev pub invariant-loop-left : goal.invariant-loop-left
invariant-loop-left l =
    (entries_off l.left (Some (turned l.entries)) l.stack.items ≡ entries_off l.count (Some (Ok [])) l.initial.stack.items)
    × (l.stack.room ≡ l.initial.stack.room) × (length l.stack.items ≤ length l.initial.stack.items)

abbrev pub decreases-loop-left : goal.decreases-loop-left
decreases-loop-left l = l.left
