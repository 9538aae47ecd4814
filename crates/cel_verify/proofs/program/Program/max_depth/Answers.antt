use Rattle.std.proofs.Common.{◌≡◌, true, [], sym, subst, arith}
use Rattle.cel_operators.specs.Outcomes.{slots_fit}
use Rattle.cel_code.specs.Machine.{on, Gets}
use Rattle.cel_verify.proofs.Bounded.{greatest_within}
use Rattle.cel_verify.proofs.Labels.{walks}
use Rattle.cel_verify.proofs.Depths.{never_more}
use Rattle.cel_verify.proofs.program.Program.max_depth.Goals as goal

pub returns-clause-within : goal.returns-clause-within
returns-clause-within c =
    let le = greatest_within c.self.inside.image (walks c.self.inside.image c.self.invariant.0.sound) in
    omega (arith, c.self.invariant.1.depth)

pub returns-clause-never_more : goal.returns-clause-never_more
returns-clause-never_more c = λ slots fits s charge steps g.
    let gets = subst (λ i. Gets i slots (on 0 [] []) s charge steps) (sym c.self.view_is) g in
    let filled = subst (λ i. slots_fit i.slots slots ≡ true) (sym c.self.view_is) fits in
    let le = never_more c.self.inside.image slots (walks c.self.inside.image c.self.invariant.0.sound) filled s charge steps gets in
    omega (arith, c.self.invariant.1.depth)
