use Rattle.std.proofs.Common.{sym}
use Rattle.cel_expression.proofs.stages.typed_expression.Goals as goal

pub returns-in-Ok : goal.returns-in-Ok
returns-in-Ok c = rw (sym c.in-Ok.ensures.slots, c.in-Ok.ensures.exact) c.rated.ensures
