use Rattle.std.proofs.Common.{◌≡◌, ◌++◌}
use Rattle.std.specs.List.Sorted.{IsStrictlySortedBy}
use Rattle.std.specs.Ordering.{nat_cmp}
use Rattle.std.specs.Cmp.Lexicographic.{slice_cmp}
use Rattle.serde_json.specs.View.{members_view}
use Rattle.base_containers.specs.Gathered.{names_of}
use Rattle.base_containers.proofs.InOrder.{before_held, held_names}
use Rattle.base_containers.proofs.contents.members_in_tree.Given as goal

abbrev pub invariant-loop-name : goal.invariant-loop-name
invariant-loop-name l = record {
  exact : members_view l.members.entries ≡ before_held l.found.items l.name-iterator;
  ordered : IsStrictlySortedBy (slice_cmp nat_cmp) (names_of l.found.items ++ held_names l.name-iterator);
}
