use Rattle.std.proofs.Common.{sym, ◌∙◌}
use Rattle.cel_expression.proofs.Numbering.{noted}
use Rattle.cel_expression.proofs.constants.note.Goals as goal

pub returns-in_ok-insert-clause-ok : goal.returns-in_ok-insert-clause-ok
returns-in_ok-insert-clause-ok c =
    noted c.args.numbers.now c.insert.new.self c.args.value.now c.in-Some.key c.args.number
    (sym c.key.ensures ∙ c.in-Some.is) c.in_ok-insert.ensures.updates
