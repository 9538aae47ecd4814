use Rattle.cel_lex.proofs.Spelled.{means_value, means_bad, spells_it, bad_in_it}
use Rattle.cel_lex.proofs.content.text_meaning.Goals as goal

pub returns-clause-value : goal.returns-clause-value
returns-clause-value c = λ body value. (spells_it body value, means_value)

pub returns-clause-bad : goal.returns-clause-bad
returns-clause-bad c = λ body place. (bad_in_it body place, means_bad)
