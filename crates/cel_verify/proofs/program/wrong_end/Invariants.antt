use Rattle.cel_verify.specs.Walked.{NoEndBefore}
use Rattle.cel_verify.proofs.program.wrong_end.Given as goal

abbrev pub invariant-loop-at : goal.invariant-loop-at
invariant-loop-at l = NoEndBefore l.code l.at
