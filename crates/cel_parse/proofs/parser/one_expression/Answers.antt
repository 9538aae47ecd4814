use Rattle.cel_parse.proofs.OneExpression.{same_expression, not_both, only_fault, one_unexpected, only_macro}
use Rattle.cel_parse.proofs.Parsed.{is_answered, is_spelled, is_refused_for, spelled_alone}
use Rattle.cel_parse.proofs.parser.one_expression.Goals as goal

pub returns-clause-expressions : goal.returns-clause-expressions
returns-clause-expressions c = same_expression

pub returns-clause-either : goal.returns-clause-either
returns-clause-either c = not_both

pub returns-clause-lexing : goal.returns-clause-lexing
returns-clause-lexing c = only_fault

pub returns-clause-places : goal.returns-clause-places
returns-clause-places c = one_unexpected

pub returns-clause-macros : goal.returns-clause-macros
returns-clause-macros c = only_macro

pub returns-clause-some : goal.returns-clause-some
returns-clause-some c = is_answered

pub returns-clause-spelled : goal.returns-clause-spelled
returns-clause-spelled c = λ text e. (spelled_alone text e, is_spelled text e)

pub returns-clause-told : goal.returns-clause-told
returns-clause-told c = is_refused_for
