use Rattle.std.proofs.Common.{◌≡◌, ◌++◌}
use Rattle.std.specs.List.Sorted.{IsStrictlySortedBy}
use Rattle.std.specs.Map.{keys_of}
use Rattle.vap_read.specs.Keys.{key_cmp}
use Rattle.vap_read.proofs.object_map.copied.Given as goal

-- the entries so far with those that are left are all
abbrev pub invariant-loop-key : goal.invariant-loop-key
invariant-loop-key l = record {
  can_next : goal.iterator-loop-key.can_next l.key-iterator;
  is_finite : goal.iterator-loop-key.is_finite l.key-iterator;
  whole : l.made.entries ++ l.key-iterator ≡ l.entries.entries;
  sorted : IsStrictlySortedBy key_cmp (keys_of l.entries.entries);
}
