use Rattle.cel_operators.proofs.Asked.{honours_own}
use Rattle.cel_operators.proofs.patterns.Patterns.choice.Goals as goal

pub returns-clause-honours : goal.returns-clause-honours
returns-clause-honours c = honours_own _ _ c.self.view_is c.self.invariant
