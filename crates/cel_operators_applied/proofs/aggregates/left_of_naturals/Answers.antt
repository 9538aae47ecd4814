use Rattle.std.proofs.Common.{arith}
use Rattle.cel_operators_applied.proofs.aggregates.left_of_naturals.Goals as goal

pub returns-then-least : goal.returns-then-least
returns-then-least c = rw c.if-least.true (omega arith)

pub returns-else-least : goal.returns-else-least
returns-else-least c = rw c.if-least.false (omega arith)
