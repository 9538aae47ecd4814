use Rattle.std.proofs.Common.{◌≡◌, ◌++◌}
use Rattle.std.specs.List.{All}
use Rattle.std.specs.List.Sorted.{IsStrictlySortedBy}
use Rattle.std.specs.Map.{keys_of}
use Rattle.vap_read.specs.Keys.{key_cmp}
use Rattle.vap_read_objects.specs.Seen.{IsSeenAt}
use Rattle.vap_read_objects.proofs.fitting.params_at.Given as goal
use Rattle.vap_read_objects.specs.Tables.{entries_in}

-- the params so far, with the entries that are left, are all
abbrev pub invariant-loop-key : goal.invariant-loop-key
invariant-loop-key l = record {
  can_next : goal.iterator-loop-key.can_next l.key-iterator;
  is_finite : goal.iterator-loop-key.is_finite l.key-iterator;
  whole : entries_in l.params.items ++ l.key-iterator ≡ l.objects;
  seen : All (IsSeenAt l.cel_type) l.params.items;
  sorted : IsStrictlySortedBy key_cmp (keys_of l.objects);
}
