use Rattle.std.proofs.Common.{◌≤◌, drop, length}
use Rattle.cel_verify.specs.Arrivals.{AreJumped}
use Rattle.cel_verify.proofs.arrivals.jumped_to.Given as goal

abbrev pub invariant-loop-at : goal.invariant-loop-at
invariant-loop-at l = (l.at ≤ length l.code) × AreJumped (drop l.at l.code) (length l.code) l.jumped.items

abbrev pub decreases-loop-at : goal.decreases-loop-at
decreases-loop-at l = l.at
