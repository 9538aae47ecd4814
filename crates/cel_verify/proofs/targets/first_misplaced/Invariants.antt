use Rattle.std.proofs.Common.{◌≡◌, drop}
use Rattle.cel_verify.specs.Accepted.{misplaced}
use Rattle.cel_verify.proofs.targets.first_misplaced.Given as goal

abbrev pub invariant-loop-target : goal.invariant-loop-target
invariant-loop-target l = misplaced l.count 0 l.image.targets ≡ misplaced l.count l.least (drop l.target-index l.target-items)
