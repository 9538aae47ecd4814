use Rattle.std.proofs.Common.{leb-true, length}
use Rattle.cel_machine.proofs.ShortTexts.{weighs_two}
use Rattle.cel_machine.proofs.comparison.is_short.Goals as goal

pub returns-then-first-lt128 : goal.returns-then-first-lt128
returns-then-first-lt128 c = λ h.
    weighs_two c.args.text.now c.in-len1-up.len_at_least c.if-first-lt128.true (leb-true (length c.args.text.now) 10 h)
