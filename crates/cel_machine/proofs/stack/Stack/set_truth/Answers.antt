use Rattle.std.proofs.Common.{◌≡◌, suc, ◌-◌, ◌<◌, ◌∷◌, Ok, length, slice_index_or, slice_set, reverse, refl, ap, ◌∙◌, arith, subst}
use Rattle.std.specs.Vec.{vec_len}
use Rattle.cel_value.specs.declared.value.Value as V
use Rattle.cel_machine.specs.Follow.{below_top}
use Rattle.cel_machine.specs.Room.{Operands}
use Rattle.cel_machine.proofs.Innermost.{set_over}
use Rattle.cel_machine.proofs.stack.Stack.set_truth.Goals as goal

pub returns-clause-set : goal.returns-clause-set
returns-clause-set c = λ set.
    let v = c.self.inside.items in
    let last = vec_len v - 1 in
    let some : 0 < vec_len v = c.in-Some.ensures.variant.0 refl in
    let is : suc last ≡ length v.items = omega (arith, v.ok.0, some) in
    let here : c.in-Some.top.now ≡ slice_index_or v.items last c.in-Some.top.now = c.in-Some.ensures.value in
    subst (λ (s : Operands). reverse (slice_set v.items last c.set_truth.new.operand) ≡ Ok (V.Bool c.args.holds) ∷ below_top s.items)
    c.self.view_is
    (set_over v.items last c.in-Some.top.now c.set_truth.new.operand is here
    ∙ ap (λ x. x ∷ below_top (reverse v.items)) (c.set_truth.ensures.set set))
