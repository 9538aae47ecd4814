use Rattle.cel_lex.proofs.Cutting.{one_cut, one_refusal, no_refusal}
use Rattle.cel_lex.proofs.Total.{has_answer}
use Rattle.cel_lex.proofs.scan.one_answer.Goals as goal

pub returns-clause-cuts : goal.returns-clause-cuts
returns-clause-cuts c = λ bytes ts us p q. one_cut p.cut q.cut

pub returns-clause-faults : goal.returns-clause-faults
returns-clause-faults c = one_refusal

pub returns-clause-either : goal.returns-clause-either
returns-clause-either c = no_refusal

pub returns-clause-some : goal.returns-clause-some
returns-clause-some c = has_answer
