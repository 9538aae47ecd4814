use Rattle.std.proofs.Common.{arith}
use Rattle.std.proofs.lemmas.Grind.{common_steps}
use Rattle.cel_parse.proofs.nodes.is_test.Goals as goal

pub returns-then-is_has : goal.returns-then-is_has
returns-then-is_has c = grind (arith, common_steps)
