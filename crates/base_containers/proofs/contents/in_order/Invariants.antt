use Rattle.std.proofs.Common.{◌≡◌, ◌++◌}
use Rattle.base_containers.specs.Gathered.{AreInOrder}
use Rattle.base_containers.proofs.contents.in_order.Given as goal

abbrev pub invariant-loop-member : goal.invariant-loop-member
invariant-loop-member l = record {
  exact : l.fn.members.entries ≡ l.found.items ++ l.member-iterator;
  ordered : AreInOrder l.fn.members.entries;
}
