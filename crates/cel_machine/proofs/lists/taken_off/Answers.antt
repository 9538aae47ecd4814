use Rattle.std.proofs.Common.{List, length, ap, ◌∙◌, arith}
use Rattle.cel_operators.specs.Outcomes.{Outcome}
use Rattle.cel_code.proofs.Taking.{taking}
use Rattle.cel_machine.proofs.lists.taken_off.Goals as goal

pub loop-left-preserved : goal.loop-left-preserved
loop-left-preserved c =
    let l = c.loop-left in
    let pushed = ap (λ (xs : List Outcome). length xs) c.push.ensures.items in
    let popped = ap (λ (xs : List Outcome). length xs) c.in-Some.ensures.items in (
      taking l.left l.taken.items l.stack.items c.pop.new.self.items c.push.new.self.items c.in-Some.x
          (omega (arith, c.loop-left-test.true)) c.in-Some.ensures.items c.push.ensures.items
          ∙ l.invariant.0,
      omega (arith, l.invariant.1, pushed, c.loop-left-test.true),
      c.push.ensures.room ∙ l.invariant.2,
      c.in-Some.ensures.room ∙ l.invariant.3,
      omega (arith, l.invariant.4, popped),
    )
