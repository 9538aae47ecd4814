use Rattle.std.proofs.Common.{◌-◌, length}
use Rattle.cel_verify.specs.Walked.{IsBefore, AreMeasures, labelled}
use Rattle.cel_verify.proofs.walk.walk.Given as goal

abbrev pub invariant-loop-instr : goal.invariant-loop-instr
invariant-loop-instr l = IsBefore l.image l.at (labelled l.label l.opens) × AreMeasures l.image l.at l.measures

abbrev pub decreases-loop-instr : goal.decreases-loop-instr
decreases-loop-instr l = length l.image.code - l.at
