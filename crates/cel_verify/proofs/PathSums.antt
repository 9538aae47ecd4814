-- What is to go from an instruction is its own weight and the greatest of where it goes.
use Rattle.std.proofs.Common.{◌≡◌, ℕ, zero, suc, ◌+◌, ◌-◌, ◌<◌, ◌≤◌, Bool, true, ◌&&◌, List}
use Rattle.std.proofs.Common.{[], ◌∷◌, length, Some, refl, ap, ◌∙◌, inl, inr, ⊎_elim, arith}
use Rattle.std.specs.Prelude.{slice_get, slice_index, nat_lt}
use Rattle.std.proofs.lemmas.Bool.{and_parts}
use Rattle.std.proofs.lemmas.List.{get_or_past}
use borrow.Author.Tests.{ltb-true}
use Rattle.cel_code.specs.declared.instr.Instr.{Instr}
use Rattle.cel_code.specs.declared.instr.Instr.TheVariants.{Const, Op, WithText, AndTest, OrTest, And, Or, Cond}
use Rattle.cel_code.specs.declared.instr.Instr.TheVariants.{Jump, End, Slot, Local, Item, When, Next}
use Rattle.cel_code.specs.declared.instr.Instr.TheVariants as instr
use Rattle.cel_code.specs.declared.image.Image.{Image}
use Rattle.cel_operators.specs.Wants.{is_there}
use Rattle.cel_verify.specs.Sound.{jumps_of, every, is_target, entry_in}
use Rattle.cel_verify.specs.Paths.{goes_to, times_at, IsIn}
use Rattle.cel_verify.specs.Walked.{greatest}
use Rattle.cel_verify.proofs.ToGo.{from_one, to_go, path_from}

pub greatest_same : (f g : ℕ → ℕ) (ts : List ℕ) → ((t : ℕ) → IsIn t ts → f t ≡ g t) → greatest f ts ≡ greatest g ts
greatest_same f g [] h = refl
greatest_same f g (t ∷ ts) h =
    let a = h t (inl refl) in
    let b = greatest_same f g ts (λ u m. h u (inr m)) in
    rw (a, b) refl

from_one_same : (w times : ℕ → ℕ) (i : Instr) (at : ℕ) (f g : ℕ → ℕ) → ((t : ℕ) → at < t → f t ≡ g t)
    → ((t : ℕ) → IsIn t (goes_to i at) → at < t) → from_one w times i at f ≡ from_one w times i at g
from_one_same w times i at f g h k =
    let a = h (at + 1) (omega arith) in
    let b = greatest_same f g (goes_to i at) (λ t m. h t (k t m)) in
    rw (a, b) refl

-- past the first of them
index_past : (x : ℕ) (rest : List ℕ) (t base : ℕ) → base < t
    → slice_index rest (t - (base + 1)) ≡ slice_index (x ∷ rest) (t - base)
index_past x rest t base h =
    let e : suc (t - (base + 1)) ≡ t - base = omega arith in
    ap (slice_index (x ∷ rest)) e

to_go_is : (w times : ℕ → ℕ) (is : List Instr) (base k at : ℕ) (i : Instr) → slice_get is k ≡ Some i → at ≡ base + k
    → ((t : ℕ) → IsIn t (goes_to i at) → at < t)
    → slice_index (to_go w times is base) k ≡ from_one w times i at (λ t. slice_index (to_go w times is base) (t - base))
to_go_is w times [] base k at i h e m = cc
to_go_is w times (j ∷ is) base zero at i h e m =
    let same : j ≡ i = cc in
    let here : base ≡ at = omega arith in
    let rest = to_go w times is (base + 1) in
    let f : ℕ → ℕ = λ t. slice_index rest (t - (base + 1)) in
    let x = from_one w times j base f in
    let first : from_one w times j base f ≡ from_one w times i at f = rw (same, here) refl in
    first
    ∙ from_one_same w times i at f (λ t. slice_index (x ∷ rest) (t - base)) (λ t lt. index_past x rest t base (omega arith)) m
to_go_is w times (j ∷ is) base (suc k) at i h e m =
    let rest = to_go w times is (base + 1) in
    let f : ℕ → ℕ = λ t. slice_index rest (t - (base + 1)) in
    let x = from_one w times j base f in
    to_go_is w times is (base + 1) k at i h (omega arith) m
    ∙ from_one_same w times i at f (λ t. slice_index (x ∷ rest) (t - base)) (λ t lt. index_past x rest t base (omega arith)) m

pub every_in : (p : ℕ → Bool) (ts : List ℕ) (t : ℕ) → every p ts ≡ true → IsIn t ts → p t ≡ true
every_in p [] t h m = absurd m
every_in p (u ∷ us) t h m =
    let r = and_parts (p u) (every p us) h in
    ⊎_elim (λ e. ap p e ∙ r.0) (λ n. every_in p us t r.1 n) m

pub is_ahead : (image : Image) (at to : ℕ) → is_target image at to ≡ true → (at < to) × (to < length image.code)
is_ahead image at to h =
    let a = and_parts (nat_lt at to && nat_lt to (length image.code)) (is_there (entry_in image.targets to)) h in
    let b = and_parts (nat_lt at to) (nat_lt to (length image.code)) a.0 in
    (omega (arith, ltb-true at to b.0), omega (arith, ltb-true to (length image.code) b.1))

module _ (image : Image) (at : ℕ) where
  next_ahead : (t : ℕ) → IsIn t ((at + 1) ∷ []) → at < t
  next_ahead t m = ⊎_elim (λ e. omega arith) (λ n. absurd n) m

  test_ahead : (to t : ℕ) → every (is_target image at) (to ∷ []) ≡ true → IsIn t (to ∷ (at + 1) ∷ []) → at < t
  test_ahead to t h m =
      ⊎_elim (λ e. let l = (is_ahead image at to (every_in (is_target image at) (to ∷ []) to h (inl refl))).0 in omega arith)
      (λ n. next_ahead t n) m

  pub ahead : (i : Instr) → every (is_target image at) (jumps_of i) ≡ true → (t : ℕ) → IsIn t (goes_to i at) → at < t
  ahead (AndTest to) h t m = test_ahead to t h m
  ahead (OrTest to) h t m = test_ahead to t h m
  ahead (Cond f g) h t m =
      ⊎_elim (λ e. omega arith) (λ n. (is_ahead image at t (every_in (is_target image at) (f ∷ g ∷ []) t h n)).0) m
  ahead (Jump to) h t m = (is_ahead image at t (every_in (is_target image at) (to ∷ []) t h m)).0
  ahead (instr.Loop l exit) h t m = (is_ahead image at t (every_in (is_target image at) (exit ∷ []) t h m)).0
  ahead Next h t m = absurd m
  ahead (Local d) h t m = next_ahead t m
  ahead Item h t m = next_ahead t m
  ahead When h t m = next_ahead t m
  ahead End h t m = absurd m
  ahead (Const k) h t m = next_ahead t m
  ahead (Slot k) h t m = next_ahead t m
  ahead (Op k) h t m = next_ahead t m
  ahead (WithText op k) h t m = next_ahead t m
  ahead (instr.List n) h t m = next_ahead t m
  ahead (instr.Map n) h t m = next_ahead t m
  ahead And h t m = next_ahead t m
  ahead Or h t m = next_ahead t m

  pub path_is : (w : ℕ → ℕ) (i : Instr) → slice_get image.code at ≡ Some i → every (is_target image at) (jumps_of i) ≡ true
      → path_from image w at ≡ from_one w (times_at image) i at (path_from image w)
  path_is w i h k =
      let f = ahead i k in
      let list = to_go w (times_at image) image.code 0 in
      to_go_is w (times_at image) image.code 0 at at i h (omega arith) f
      ∙ from_one_same w (times_at image) i at (λ t. slice_index list (t - 0)) (path_from image w)
      (λ t lt. let z : t - 0 ≡ t = omega arith in ap (slice_index list) z) f

greatest_is : (f : ℕ → ℕ) (t : ℕ) (ts : List ℕ) → IsIn t ts → f t ≤ greatest f ts
greatest_is f t [] h = absurd h
greatest_is f t (u ∷ us) h =
    ⊎_elim (λ e. let q : f t ≡ f u = ap f e in omega arith) (λ r. let q = greatest_is f t us r in omega arith) h

pub path_step : (image : Image) (at : ℕ) (w : ℕ → ℕ) (i : Instr) (t : ℕ) → slice_get image.code at ≡ Some i
    → every (is_target image at) (jumps_of i) ≡ true → IsIn t (goes_to i at) → w at + path_from image w t ≤ path_from image w at
path_step image at w i t h k m =
    let p = path_is image at w i h k in
    let q = greatest_is (path_from image w) t (goes_to i at) m in
    omega arith

-- past the code nothing is to go
to_go_long : (w times : ℕ → ℕ) (is : List Instr) (base : ℕ) → length (to_go w times is base) ≡ length is
to_go_long w times [] base = refl
to_go_long w times (i ∷ is) base = ap suc (to_go_long w times is (base + 1))

pub path_past : (image : Image) (w : ℕ → ℕ) (at : ℕ) → length image.code ≤ at → path_from image w at ≡ 0
path_past image w at h =
    let e = to_go_long w (times_at image) image.code 0 in
    get_or_past (to_go w (times_at image) image.code 0) at 0 (omega (arith, e))
