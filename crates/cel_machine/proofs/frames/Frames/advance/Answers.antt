use Rattle.std.proofs.Common.{◌≡◌, suc, ◌-◌, ◌<◌, length, List, Some, None, MatchBool, slice_index_or, slice_set, refl, arith, subst}
use Rattle.std.specs.Prelude.{reverse}
use Rattle.std.specs.Vec.{vec_len}
use Rattle.cel_code.specs.Machine.{Frame}
use Rattle.cel_machine.specs.Follow.{advanced}
use Rattle.cel_machine.proofs.Innermost.{advancing}
use Rattle.cel_machine.proofs.frames.Frames.advance.Goals as goal

pub returns : goal.returns
returns c =
    let v = c.self.inside.items in
    let last = vec_len v - 1 in
    let some : 0 < vec_len v = c.in-Some.ensures.variant.0 refl in
    let is : suc last ≡ length v.items = omega (arith, v.ok.0, some) in
    let h : c.in-Some.frame.now ≡ slice_index_or v.items last c.in-Some.frame.now = c.in-Some.ensures.value in
    let after = reverse (slice_set v.items last c.advance.new.self) in
    subst (λ (fs : List Frame). MatchBool c.advance.result (advanced fs ≡ Some after) (advanced fs ≡ None)) c.self.view_is
    (advancing c.advance.result v.items last c.in-Some.frame.now c.advance.new.self is h c.advance.ensures)
