use Rattle.std.proofs.Common.{ltb-true}
use Rattle.cel_machine.proofs.ShortTexts.{weighs_no_less}
use Rattle.cel_machine.proofs.comparison.is_begun.Goals as goal

pub returns-in-len1-up : goal.returns-in-len1-up
returns-in-len1-up c = λ h. weighs_no_less c.args.text.now c.in-len1-up.len_at_least (ltb-true _ 128 h)
