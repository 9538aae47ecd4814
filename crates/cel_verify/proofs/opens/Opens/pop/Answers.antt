use Rattle.std.proofs.Common.{arith}
use Rattle.cel_verify.proofs.Openings.{one_popped}
use Rattle.cel_verify.proofs.opens.Opens.pop.Goals as goal

pub overflow_sub-below : goal.overflow_sub-below
overflow_sub-below c =
    let items = c.self.inside.items.items in
    let rest = c.pop.new.self.items in
    let r = one_popped items rest c.in-Some.ended c.self.inside.below c.in-Some.ensures.items c.self.invariant in
    omega (arith, c.len.ensures, r.0)

pub invariant_of-self-2 : goal.invariant_of-self-2
invariant_of-self-2 c =
    let items = c.self.inside.items.items in
    let rest = c.pop.new.self.items in
    let r = one_popped items rest c.in-Some.ended c.self.inside.below c.in-Some.ensures.items c.self.invariant in
    omega (arith, c.len.ensures, r.0, r.1)
