use Rattle.std.proofs.Common.{◌≡◌, ◌++◌}
use Rattle.std.specs.List.Sorted.{IsStrictlySortedBy}
use Rattle.std.specs.Map.{keys_of}
use Rattle.vap_read.specs.Keys.{is_of, key_cmp}
use Rattle.vap_read_objects.specs.Classes.{of_class}
use Rattle.vap_read_objects.proofs.of_kind.entries_of_kind.Given as goal

-- the entries so far with those that are left are all of the kind
abbrev pub invariant-loop-key : goal.invariant-loop-key
invariant-loop-key l = record {
  can_next : goal.iterator-loop-key.can_next l.key-iterator;
  is_finite : goal.iterator-loop-key.is_finite l.key-iterator;
  whole : l.found ++ l.key-iterator ≡ of_class (is_of l.api_version l.kind) l.objects;
  sorted : IsStrictlySortedBy key_cmp (keys_of (of_class (is_of l.api_version l.kind) l.objects));
}
