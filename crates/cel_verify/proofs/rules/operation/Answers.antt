use Rattle.std.proofs.Common.{sym, ◌∙◌, subst}
use Rattle.cel_operators.specs.Operators.{row}
use Rattle.cel_verify.specs.Walked.{Follows}
use Rattle.cel_verify.proofs.Operations.{rule_by_one, rule_by_two}
use Rattle.cel_verify.proofs.rules.operation.Goals as goal

pub returns-in-One : goal.returns-in-One
returns-in-One c =
    let one = rule_by_one (row c.args.op) _ c.args.types (sym c.operands.ensures ∙ c.in-One.is) in
    subst (Follows c.operation_on_one.result) (sym one) c.operation_on_one.ensures

pub returns-in-Two : goal.returns-in-Two
returns-in-Two c =
    let two = rule_by_two (row c.args.op) _ _ c.args.types (sym c.operands.ensures ∙ c.in-Two.is) in
    subst (Follows c.operation_on_two.result) (sym two) c.operation_on_two.ensures
