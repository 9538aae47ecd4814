use Rattle.std.proofs.Common.{◌≡◌, replicate}
use Rattle.vap_plane.proofs.running.told_to.Given as goal

abbrev pub invariant-loop-worker : goal.invariant-loop-worker
invariant-loop-worker l = l.all.items ≡ replicate l._worker l.told
