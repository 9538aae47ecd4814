use Rattle.cel_lex.proofs.FirstClosing.{closing_is, closing_found, never_closed, not_found}
use Rattle.cel_lex.proofs.literal.text_closing.Goals as goal

pub returns-clause-closed : goal.returns-clause-closed
returns-clause-closed c = λ s inside n quote. (closing_is s inside n quote, closing_found s inside n quote)

pub returns-clause-unclosed : goal.returns-clause-unclosed
returns-clause-unclosed c = λ s inside quote. (not_found s inside quote, never_closed s inside quote)
