use Rattle.cel_operators.proofs.Read.{no_pattern, one_is_pattern}
use Rattle.cel_operators.proofs.regexes.refused.Goals as goal

pub returns-in-Syntax-clause-reason : goal.returns-in-Syntax-clause-reason
returns-in-Syntax-clause-reason c = λ text refused kind. no_pattern text _ (refused _ c.in-Syntax.is) (rw c.in-Syntax.is at kind)

pub returns-in-CompiledTooBig-clause-reason : goal.returns-in-CompiledTooBig-clause-reason
returns-in-CompiledTooBig-clause-reason c = λ text refused kind. one_is_pattern text (rw c.in-CompiledTooBig.is at kind)

pub returns-in-Internal-clause-reason : goal.returns-in-Internal-clause-reason
returns-in-Internal-clause-reason c = λ text refused kind. one_is_pattern text (rw c.in-Internal.is at kind)
