use Rattle.std.proofs.Common.{ap, sym, ◌∙◌, ◌-◌, ◌^◌}
use Rattle.std.specs.Prelude.{min, reverse}
use Rattle.cel_operators.specs.Operators.{row}
use Rattle.cel_verify.proofs.Operations.{charge_by_one, charge_by_two}
use Rattle.cel_verify.proofs.charges.operator_charge.Goals as goal

pub returns-in-One : goal.returns-in-One
returns-in-One c =
    c.charge_on_one.ensures
    ∙ ap (λ n. min n (2 ^ 64 - 1))
    (sym (charge_by_one (row c.args.op) _ (reverse c.args.types.now) (sym c.operands.ensures ∙ c.in-One.is)))

pub returns-in-Two : goal.returns-in-Two
returns-in-Two c =
    c.charge_on_two.ensures
    ∙ ap (λ n. min n (2 ^ 64 - 1))
    (sym (charge_by_two (row c.args.op) _ _ (reverse c.args.types.now) (sym c.operands.ensures ∙ c.in-Two.is)))
