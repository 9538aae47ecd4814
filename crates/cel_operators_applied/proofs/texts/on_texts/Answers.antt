use Rattle.cel_operators.specs.Operators.{row}
use Rattle.cel_operators.specs.declared.operands.Want.TheVariants.{Characters}
use Rattle.std.proofs.Common.{Some, sym, ◌∙◌}
use Rattle.cel_operators_applied.specs.Lent.{lent}
use Rattle.cel_operators_applied.proofs.Families.{two_stops}
use Rattle.cel_operators_applied.proofs.texts.on_texts.Goals as goal

pub returns-in-Err : goal.returns-in-Err
returns-in-Err c =
    two_stops (row c.args.op) Characters Characters c.requires (λ s. s.now) (λ s. s.now) c.characters.result c.characters-2.result
    (Some (lent c.args.x)) (Some (lent c.args.y)) c.characters.ensures c.characters-2.ensures c.in-Err.made
    (sym c.both.ensures ∙ c.in-Err.is)
