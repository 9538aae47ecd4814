use Rattle.std.proofs.Common.{arith}
use Rattle.cel_machine.proofs.ShortTexts.{code_points_most}
use Rattle.cel_machine.proofs.step.size_on_top.Goals as goal

pub returns-in-Some-Ok-Text-clause-small : goal.returns-in-Some-Ok-Text-clause-small
returns-in-Some-Ok-Text-clause-small c = omega (arith, code_points_most c.as_str.result.now)
