use Rattle.std.proofs.Common.{arith}
use Rattle.cel_operators_applied.proofs.Counts.{code_points_le}
use Rattle.cel_operators_applied.proofs.texts.of_text.Goals as goal

pub count-requires : goal.count-requires
count-requires c = omega (arith, code_points_le c.args.text.now c.utf8.text)
