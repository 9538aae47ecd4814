use Rattle.std.proofs.Common.{◌&&◌, sym, ap, ◌∙◌}
use Rattle.std.specs.Prelude.{reverse}
use Rattle.cel_verify.specs.StackTypes.{all_assignable}
use Rattle.cel_verify.proofs.Pairwise.{under_none, under_is}
use Rattle.cel_verify.proofs.type_stack.TypeStack.fits_under.Goals as goal

pub returns-in_default : goal.returns-in_default
returns-in_default c = under_none c.args.top.now c.args.self.now c.args.entry.now c.in_default.ensures

pub returns-then-not-assignable : goal.returns-then-not-assignable
returns-then-not-assignable c =
    let ss = c.args.self.now in
    let below = c.in-Some.below.now in
    sym
    (under_is c.args.top.now c.in-Some.t.now ss below c.args.entry.now c.in-Some.ensures
    ∙ ap (λ b. b && all_assignable ss (reverse below)) (sym c.assignable.ensures.exact ∙ c.if-not-assignable.true))

pub returns : goal.returns
returns c =
    let ss = c.args.self.now in
    let below = c.in-Some.below.now in
    c.fits.ensures
    ∙ sym
    (under_is c.args.top.now c.in-Some.t.now ss below c.args.entry.now c.in-Some.ensures
    ∙ ap (λ b. b && all_assignable ss (reverse below)) (sym c.assignable.ensures.exact ∙ c.if-not-assignable.false))
