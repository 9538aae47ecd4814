use Rattle.std.proofs.Common.{◌≡◌, ◌+◌, ◌&&◌, drop, length, sym, ap, ◌∙◌, arith}
use Rattle.cel_operators.specs.Outcomes.{slots_fit}
use Rattle.cel_machine.proofs.Filled.{next_at, none_behind, none_lent}
use Rattle.cel_machine.proofs.slots.each_fits.Goals as goal

pub returns-then-not-is_of : goal.returns-then-not-is_of
returns-then-not-is_of c =
    let next =
    next_at c.loop-number.number c.args.types.now c.args.slots.now c.index-types-number.result c.loop-number-test.true
    c.index-types-number.is in
    sym
    (sym c.loop-number.invariant ∙ next
    ∙ ap (λ b. b && slots_fit (drop (c.loop-number.number + 1) c.args.types.now) (drop (c.loop-number.number + 1) c.args.slots.now))
    (sym c.is_of.ensures ∙ c.if-not-is_of.true))

pub loop-number-preserved : goal.loop-number-preserved
loop-number-preserved c =
    let next =
    next_at c.loop-number.number c.args.types.now c.args.slots.now c.index-types-number.result c.loop-number-test.true
    c.index-types-number.is in
    sym
    (next
    ∙ ap (λ b. b && slots_fit (drop (c.loop-number.number + 1) c.args.types.now) (drop (c.loop-number.number + 1) c.args.slots.now))
    (sym c.is_of.ensures ∙ c.if-not-is_of.false))
    ∙ c.loop-number.invariant

pub returns : goal.returns
returns c =
    let end : c.loop-number.number ≡ length c.args.types.now = omega (arith, c.loop-number-test.false, c.loop-number.auto.number-end) in
    none_lent _ _ _ _ c.get.ensures c.is_none.ensures
    ∙ (sym (none_behind c.args.types.now c.args.slots.now)
    ∙ (ap (λ n. slots_fit (drop n c.args.types.now) (drop n c.args.slots.now)) (sym end) ∙ c.loop-number.invariant))
