use Rattle.std.proofs.Common.{◌≡◌, length}
use Rattle.cel_verify.specs.Sound.{still_open}
use Rattle.cel_verify.proofs.opens.close_ended.Given as goal

abbrev pub invariant-loop-opens : goal.invariant-loop-opens
invariant-loop-opens l = still_open l.at l.opens ≡ still_open l.at l.fn.opens

abbrev pub decreases-loop-opens : goal.decreases-loop-opens
decreases-loop-opens l = length l.opens
