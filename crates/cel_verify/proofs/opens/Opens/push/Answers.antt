use Rattle.std.proofs.Common.{length, ap, arith}
use Rattle.cel_verify.specs.Sound.{below_all}
use Rattle.cel_verify.proofs.Openings.{below_more}
use Rattle.cel_verify.proofs.opens.Opens.push.Goals as goal

pub overflow_add-below : goal.overflow_add-below
overflow_add-below c =
    let same = ap (λ os. length (below_all os)) c.self.view_is in
    omega (arith, same, c.self.invariant, c.requires.room, c.len.ensures)

pub invariant_of-self-2 : goal.invariant_of-self-2
invariant_of-self-2 c =
    rw c.in_ok-push.ensures.items
    (omega (arith, below_more c.self.inside.items.items c.args.begun, c.self.invariant, c.len.ensures))
