use Rattle.std.proofs.Common.{◌≡◌, suc, ◌-◌, ◌<◌, length, List, ◌∷◌, IfOk, slice_index_or, slice_set, refl, arith, subst}
use Rattle.std.specs.Prelude.{reverse}
use Rattle.std.specs.Vec.{vec_len}
use Rattle.cel_operators.specs.Outcomes.{Outcome}
use Rattle.cel_code.specs.Machine.{Frame}
use Rattle.cel_machine.specs.Follow.{next_in, turned_in}
use Rattle.cel_machine.proofs.Innermost.{turning}
use Rattle.cel_machine.proofs.frames.Frames.turn.Goals as goal

pub returns : goal.returns
returns c =
    let v = c.self.inside.items in
    let last = vec_len v - 1 in
    let some : 0 < vec_len v = c.in-Some.ensures.variant.0 refl in
    let is : suc last ≡ length v.items = omega (arith, v.ok.0, some) in
    let h : c.in-Some.frame.now ≡ slice_index_or v.items last c.in-Some.frame.now = c.in-Some.ensures.value in
    let after = reverse (slice_set v.items last c.turn.new.self) in
    subst (λ (fs : List Frame). IfOk c.turn.result
    (λ t. (stack : List Outcome) → next_in (c.args.x ∷ stack) fs ≡ turned_in t stack after))
    c.self.view_is
    (turning c.turn.result v.items last c.in-Some.frame.now c.turn.new.self c.args.x is h c.turn.ensures.turned c.turn.ensures.kept)
