use Rattle.std.proofs.Common.{◌≡◌, ◌↔◌, drop}
use Rattle.base_containers.proofs.same.same_list.Given as goal

-- the lists are the same if what is left of them is
abbrev pub invariant-loop-item : goal.invariant-loop-item
invariant-loop-item g l = (l.left ≡ l.right) ↔ (drop l.item-index l.left ≡ l.rest)
