use Rattle.std.proofs.Common.{arith}
use Rattle.std.proofs.lemmas.Grind.{common_steps}
use Rattle.cel_parse.proofs.heads.colon_at.Goals as goal

pub returns-in-Colon : goal.returns-in-Colon
returns-in-Colon c = grind (arith, common_steps)
