use Rattle.std.proofs.Common.{◌≡◌, ◌+◌}
use Rattle.vap_read_objects.specs.Limits.{weight, total, limit}
use Rattle.vap_read_objects.proofs.tallies.is_few.Given as goal

-- what is left with all that counted so far is the limit
abbrev pub invariant-loop-object : goal.invariant-loop-object
invariant-loop-object l = record {
  can_next : goal.iterator-loop-object.can_next l.object-iterator;
  is_finite : goal.iterator-loop-object.is_finite l.object-iterator;
  spent : total (weight l.counted) l.object-iterator + limit l.counted ≡ total (weight l.counted) l.objects + l.left;
}
