use Rattle.std.proofs.Common.{◌≡◌, Some, Ok, sym, ap, ◌∙◌}
use Rattle.cel_value.specs.declared.value.Value.{Value}
use Rattle.std.specs.Borrow.{Bor}
use Rattle.cel_operators.specs.Operators.{row}
use Rattle.cel_operators.specs.Wants.{taken}
use Rattle.cel_operators.specs.declared.operands.Want.TheVariants.{Ordered}
use Rattle.cel_operators_applied.specs.Counted.{counted}
use Rattle.cel_operators_applied.specs.Kinds.{seen_by}
use Rattle.cel_operators_applied.specs.Lent.{lent}
use Rattle.cel_operators_applied.proofs.Families.{two_passes, both_are, ordered_itself}
use Rattle.cel_operators_applied.proofs.comparisons.order.Goals as goal

pub returns-in-Ok : goal.returns-in-Ok
returns-in-Ok c =
    let is = sym c.both.ensures ∙ c.in-Ok.is in
    let known = both_are c.ordered.result c.ordered-2.result (c.in-Ok.v, c.in-Ok.w) is in
    let i = ordered_itself (Some (lent c.args.x)) c.in-Ok.v.now (sym c.ordered.ensures ∙ ap (seen_by (λ (v : Bor Value). v.now)) known.0) in
    let j = ordered_itself (Some (lent c.args.y)) c.in-Ok.w.now (sym c.ordered-2.ensures ∙ ap (seen_by (λ (v : Bor Value). v.now)) known.1)
    in
    c.compared.ensures
    ∙ ap counted (two_passes (row c.args.op) Ordered Ordered c.requires (λ v. v.now) (λ v. v.now) c.ordered.result c.ordered-2.result
    (Some (lent c.args.x)) (Some (lent c.args.y)) c.ordered.ensures c.ordered-2.ensures (c.in-Ok.v, c.in-Ok.w)
    is (Some (Ok c.in-Ok.v.now)) (Some (Ok c.in-Ok.w.now)) i j)
