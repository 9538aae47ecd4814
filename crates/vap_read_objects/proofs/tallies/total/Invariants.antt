use Rattle.std.proofs.Common.{◌≡◌, ◌+◌, ◌≤◌}
use Rattle.std.specs.List.Sorted.{IsStrictlySortedBy}
use Rattle.std.specs.Map.{keys_of}
use Rattle.vap_read.specs.Keys.{key_cmp}
use Rattle.vap_read_objects.specs.Limits.{weight, total}
use Rattle.vap_read_objects.proofs.tallies.total.Given as goal

abbrev pub invariant-loop-object : goal.invariant-loop-object
invariant-loop-object l = record {
  can_next : goal.iterator-loop-object.can_next l.object-iterator;
  is_finite : goal.iterator-loop-object.is_finite l.object-iterator;
  all : l.sum + total (weight l.counted) l.object-iterator ≡ total (weight l.counted) l.objects;
  small : total (weight l.counted) l.objects ≤ 4096;
  sorted : IsStrictlySortedBy key_cmp (keys_of l.objects);
}
