use Rattle.std.proofs.Common.{◌≤◌, drop, length}
use Rattle.cel_verify.specs.Arrivals.{AreFirsts}
use Rattle.cel_verify.proofs.arrivals.first_targets.Given as goal

abbrev pub invariant-loop-number : goal.invariant-loop-number
invariant-loop-number l = (l.number ≤ length l.targets) × AreFirsts l.targets (drop l.number l.targets) l.count l.firsts.items

abbrev pub decreases-loop-number : goal.decreases-loop-number
decreases-loop-number l = l.number
