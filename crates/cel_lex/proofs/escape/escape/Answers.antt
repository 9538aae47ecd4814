use Rattle.std.proofs.Common.{arith}
use Rattle.std.proofs.lemmas.Grind.{common_steps}
use Rattle.cel_lex.proofs.escape.escape.Goals as goal

pub returns-in-117 : goal.returns-in-117
returns-in-117 c = grind (arith, common_steps)
