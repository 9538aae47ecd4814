use Rattle.std.proofs.Common.{◌≡◌, ◌+◌, ◌∷◌, [], length, min, not, Some, sym, ap, ◌∙◌, arith}
use Rattle.std.specs.Prelude.{Ok}
use Rattle.cel_verify.specs.declared.fault.VerifyRule.TheVariants.{TooDeep}
use Rattle.cel_verify.specs.Sound.{needs}
use Rattle.cel_verify.specs.Walked.{ceiling, shallow}
use Rattle.cel_verify.proofs.Openings.{entered_shallow, room_left}
use Rattle.cel_verify.proofs.walk.enter.Goals as goal

pub returns-then-not-takes_none : goal.returns-then-not-takes_none
returns-then-not-takes_none c =
    ap (shallow (c.args.begun ∷ c.args.opens.now)) (c.takes_none.ensures.refused c.if-not-takes_none.true)

pub returns-then-is_too_much : goal.returns-then-is_too_much
returns-then-is_too_much c =
    let o = c.args.begun in
    let opens = c.args.opens.now in
    let loops : c.saturating_add-loops.result ≡ min (length opens + 1) ceiling = omega (arith, c.len.ensures) in
    let taken = c.takes_none.ensures.taken c.if-not-takes_none.false in
    ap (shallow (o ∷ opens)) taken.stand
    ∙ entered_shallow o opens c.len-2.result c.below.result c.saturating_add-loops.result c.is_too_much.result c.len-2.ensures
    c.below.ensures loops c.is_too_much.ensures
    ∙ ap (λ b. needs (not b) TooDeep (Ok (Some []))) c.if-is_too_much.true

pub push-requires : goal.push-requires
push-requires c =
    let o = c.args.begun in
    let opens = c.args.opens.now in
    let loops : c.saturating_add-loops.result ≡ min (length opens + 1) ceiling = omega (arith, c.len.ensures) in
    let room =
    room_left o opens c.len-2.result c.below.result c.saturating_add-loops.result c.is_too_much.result c.len-2.ensures
    c.below.ensures loops c.is_too_much.ensures c.if-is_too_much.false in
    omega arith

pub returns : goal.returns
returns c =
    let o = c.args.begun in
    let opens = c.args.opens.now in
    let loops : c.saturating_add-loops.result ≡ min (length opens + 1) ceiling = omega (arith, c.len.ensures) in
    let taken = c.takes_none.ensures.taken c.if-not-takes_none.false in (
      (
        ap (shallow (o ∷ opens)) taken.stand
            ∙ entered_shallow o opens c.len-2.result c.below.result c.saturating_add-loops.result c.is_too_much.result c.len-2.ensures
            c.below.ensures loops c.is_too_much.ensures
            ∙ ap (λ b. needs (not b) TooDeep (Ok (Some []))) c.if-is_too_much.false,
        taken.there ∙ ap Some (sym c.new.ensures),
      ),
      c.in_ok-push.ensures,
    )
