use Rattle.std.proofs.Common.{◌≡◌, ◌++◌, take}
use Rattle.cel_operators_applied.proofs.lists.push_copies.Given as goal

abbrev pub invariant-loop-item : goal.invariant-loop-item
invariant-loop-item l = l.to.items ≡ l.initial.to.items ++ take l.item-index l.items
