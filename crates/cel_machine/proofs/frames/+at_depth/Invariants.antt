use Rattle.std.proofs.Common.{length}
use Rattle.cel_machine.proofs.frames.+at_depth.Given as goal

abbrev pub decreases-at_depth : goal.decreases-at_depth
decreases-at_depth l = length l.frames.now
