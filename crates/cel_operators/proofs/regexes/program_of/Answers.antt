use Rattle.cel_operators.proofs.Read.{is_pattern}
use Rattle.cel_operators.proofs.regexes.program_of.Goals as goal

pub returns-in-Ok-clause-refused : goal.returns-in-Ok-clause-refused
returns-in-Ok-clause-refused c =
    let text = c.args.text.now in
    c.program_from.ensures.refused text (is_pattern text c.in-Ok.parsed.hir _ (rw c.default.ensures at c.in-Ok.ensures.ok))

pub returns-in-Err-clause-refused : goal.returns-in-Err-clause-refused
returns-in-Err-clause-refused c = c.unread.ensures.reason c.args.text.now (rw c.default.ensures at c.in-Err.ensures.err)
