-- The most operands and the most open loops, one instruction after another.
use Rattle.std.proofs.Common.{◌≡◌, ℕ, zero, suc, ◌<◌, ◌≤◌, List, [], ◌∷◌, ◌++◌}
use Rattle.std.proofs.Common.{length, length-append, true, refl, sym, ap, subst, ⊎_elim, arith}
use Rattle.std.proofs.lemmas.Bool.{cases_lt}
use Rattle.cel_code.specs.declared.image.Image.{Image}
use Rattle.cel_operators.specs.Outcomes.{Outcome, slots_fit}
use Rattle.cel_code.specs.Machine.{Frame, State, on}
use Rattle.cel_verify.specs.StackTypes.{StackTypes, AllFit}
use Rattle.cel_verify.specs.Sound.{Open, below_all, IsWalked}
use Rattle.cel_verify.specs.Typed.{types_at, opens_at, waits_at, FramesFit, Typed}
use Rattle.cel_verify.specs.Depths.{operands_of, depth_at, deepest, greatest_depth, NeverMore}
use Rattle.cel_verify.specs.Depths.{most_open, greatest_nesting, NeverMoreLoops}
use Rattle.cel_verify.proofs.Steps.{begins, gets_typed}

-- no instruction has more
pub within_deepest : (image : Image) (n at : ℕ) → at < n → depth_at image at ≤ deepest image n
within_deepest image zero at h = absurd (omega arith)
within_deepest image (suc n) at h =
    ⊎_elim (λ less. let r = within_deepest image n at less in omega arith)
    (λ le. let e : at ≡ n = omega arith in subst (λ k. depth_at image k ≤ deepest image (suc n)) (sym e) (omega arith))
    (cases_lt at n)

pub within_most_open : (image : Image) (n at : ℕ) → at < n → length (opens_at image at) ≤ most_open image n
within_most_open image zero at h = absurd (omega arith)
within_most_open image (suc n) at h =
    ⊎_elim (λ less. let r = within_most_open image n at less in omega arith)
    (λ le.
    let e : at ≡ n = omega arith in
    subst (λ k. length (opens_at image k) ≤ most_open image (suc n)) (sym e) (omega arith))
    (cases_lt at n)

-- as many operands as types
fit_long : (stack : List Outcome) (ts : StackTypes) → AllFit stack ts → length stack ≡ length ts
fit_long [] [] h = refl
fit_long [] (t ∷ ts) h = absurd h
fit_long (x ∷ stack) [] h = absurd h
fit_long (x ∷ stack) (t ∷ ts) h = let r = fit_long stack ts h.1 in omega arith

-- as many frames as open loops
frames_long : (image : Image) (waiting : ℕ) (fs : List Frame) (os : List Open) → FramesFit image waiting fs os
    → length fs ≡ length os
frames_long image waiting [] [] h = refl
frames_long image waiting [] (o ∷ os) h = absurd h
frames_long image waiting (f ∷ fs) [] h = absurd h
frames_long image waiting (f ∷ fs) (o ∷ os) h = ap suc (frames_long image 1 fs os h.1)

-- a state that fits its label
typed_deep : (image : Image) (s : State) → Typed image s → length s.stack ≤ greatest_depth image
typed_deep image s t =
    let own : operands_of (types_at image s.at) ≡ length t.types = ap operands_of t.label in
    let long = fit_long s.stack (t.types ++ below_all (opens_at image s.at)) t.fits in
    let parts = length-append t.types (below_all (opens_at image s.at)) in
    let most = within_deepest image (length image.code) s.at t.inside in
    omega arith

typed_nested : (image : Image) (s : State) → Typed image s → length s.frames ≤ greatest_nesting image
typed_nested image s t =
    let long = frames_long image (waits_at image s.at) s.frames (opens_at image s.at) t.frames in
    let most = within_most_open image (length image.code) s.at t.inside in
    omega arith

-- a state that the machine reaches
pub never_more : (image : Image) (slots : List Outcome) → IsWalked image → slots_fit image.slots slots ≡ true
    → NeverMore image slots (greatest_depth image)
never_more image slots sound filled = λ s charge steps g.
    let first = begins image slots sound filled in
    typed_deep image s (gets_typed image slots sound filled (on 0 [] []) s charge steps g first).0

pub never_more_loops : (image : Image) (slots : List Outcome) → IsWalked image → slots_fit image.slots slots ≡ true
    → NeverMoreLoops image slots (greatest_nesting image)
never_more_loops image slots sound filled = λ s charge steps g.
    let first = begins image slots sound filled in
    typed_nested image s (gets_typed image slots sound filled (on 0 [] []) s charge steps g first).0
