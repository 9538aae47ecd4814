use Rattle.std.proofs.Common.{◌≡◌, ◌+◌, Bool, false, drop, option_map, sym, subst, ◌∙◌}
use Rattle.cel_lex.specs.Texts.{closed_at}
use Rattle.cel_lex.proofs.Closings.{closing_now, breaking_now, going_on, not_closed}
use Rattle.cel_lex.proofs.literal.closing.Goals as goal

pub returns-then-closes_at : goal.returns-then-closes_at
returns-then-closes_at c =
    closing_now c.args.style c.loop-i.is_escaped c.args.inside.now c.loop-i.i
    (closed_at c.args.style false c.args.inside.now) c.loop-i-test.true c.loop-i.invariant (sym c.closes_at.ensures ∙ c.if-closes_at.true)

pub returns-then-breaks_at : goal.returns-then-breaks_at
returns-then-breaks_at c =
    breaking_now c.args.style c.loop-i.is_escaped c.args.inside.now c.loop-i.i
    (closed_at c.args.style false c.args.inside.now) c.loop-i-test.true c.loop-i.invariant
    (sym c.closes_at.ensures ∙ c.if-closes_at.false) (sym c.breaks_at.ensures ∙ c.if-breaks_at.true)

pub loop-i-preserved : goal.loop-i-preserved
loop-i-preserved c =
    let total = closed_at c.args.style false c.args.inside.now in
    subst
    (λ (b : Bool). option_map (λ n. c.loop-i.i + 1 + n) (closed_at c.args.style b (drop (c.loop-i.i + 1) c.args.inside.now)) ≡ total)
    (sym c.escapes_at-is_escaped.ensures)
    (going_on c.args.style c.loop-i.is_escaped c.args.inside.now c.loop-i.i total c.loop-i-test.true c.loop-i.invariant
    (sym c.closes_at.ensures ∙ c.if-closes_at.false) (sym c.breaks_at.ensures ∙ c.if-breaks_at.false))

pub returns : goal.returns
returns c =
    not_closed c.args.style c.loop-i.is_escaped c.args.inside.now c.loop-i.i
    (closed_at c.args.style false c.args.inside.now) c.loop-i-test.false c.loop-i.invariant
