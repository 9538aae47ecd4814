use Rattle.std.proofs.Common.{◌*◌, ap, arith}
use Rattle.cel_lex.proofs.Digits.{past_now}
use Rattle.cel_lex.proofs.number.number_up_to.Goals as goal

pub returns-then-value-from-clause-value : goal.returns-then-value-from-clause-value
returns-then-value-from-clause-value c =
    let base = c.from.ensures in
    let digit = c.digit.ensures.value in
    let value = c.from-in-loop-d.ensures in
    let most = c.from-in-loop-d-2.ensures in
    past_now c.args.most c.args.base c.args.digits.now c.loop-d.d-index c.loop-d.value c.requires.some c.loop-d-test.true
    (omega (arith, ap (λ x. c.loop-d.value * x) base)) c.loop-d.invariant.1
