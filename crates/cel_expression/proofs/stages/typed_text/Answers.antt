use Rattle.cel_expression.specs.Expressions.{accepted_of, typed_of}
use Rattle.cel_expression.proofs.stages.typed_text.Goals as goal

pub returns-in-Ok : goal.returns-in-Ok
unfolding accepted_of typed_of
returns-in-Ok c = rw c.in-Ok.ensures.read c.typed_expression.ensures
