-- What is to go is the greatest sum of the routes.
use Rattle.std.proofs.Common.{◌≡◌, ◌≢◌, ℕ, zero, suc, ◌+◌, ◌*◌, ◌<◌, ◌≤◌, true, false, List, [], ◌∷◌}
use Rattle.std.proofs.Common.{length, Some, refl, sym, ap, ◌∙◌, subst, inl, inr, ⊎_elim, arith}
use Rattle.std.specs.Prelude.{slice_get}
use Rattle.std.proofs.Math.Nat.{mul-le-mul}
use Rattle.std.proofs.lemmas.Bool.{cases_lt}
use Rattle.std.proofs.lemmas.Option.{slice_get_within}
use Rattle.cel_code.specs.declared.instr.Instr.{Instr}
use Rattle.cel_code.specs.declared.instr.Instr.TheVariants.{Const, Op, WithText, AndTest, OrTest, And, Or, Cond}
use Rattle.cel_code.specs.declared.instr.Instr.TheVariants.{Jump, End, Slot, Local, Item, When, Next}
use Rattle.cel_code.specs.declared.instr.Instr.TheVariants as instr
use Rattle.cel_code.specs.declared.image.Image.{Image}
use Rattle.cel_verify.specs.Sound.{every, is_target, jumps_of, IsWalked}
use Rattle.cel_verify.specs.Paths.{goes_to, times_at, IsIn, is_loop, Route, Stops, Via, Rounds}
use Rattle.cel_verify.specs.Paths.{IsRouteSum, IsGreatest}
use Rattle.cel_verify.specs.Walked.{greatest, rounds_of}
use Rattle.cel_verify.proofs.ToGo.{path_from}
use Rattle.cel_verify.proofs.RuleParts.{parts_at}
use Rattle.cel_verify.proofs.Falling.{get_some}
use Rattle.cel_verify.proofs.PathSums.{every_in, is_ahead, ahead, path_is, path_step}

-- the greatest is that of one of them
greatest_one : (f : ℕ → ℕ) (t : ℕ) (ts : List ℕ) → (u : ℕ) × IsIn u (t ∷ ts) × (greatest f (t ∷ ts) ≡ f u)
greatest_one f t [] = (t, inl refl, omega arith)
greatest_one f t (v ∷ ts) =
    let r = greatest_one f v ts in
    let e = r.2 in
    ⊎_elim (λ lt. (r.0, inr r.1, omega arith)) (λ le. (t, inl refl, omega arith)) (cases_lt (f t) (f r.0))

module _ (image : Image) (sound : IsWalked image) (w : ℕ → ℕ) where
  abbrev R : ℕ → ℕ → Type 0
  R = Route w (times_at image) image.code

  pub targets_at : (at : ℕ) (i : Instr) → slice_get image.code at ≡ Some i → every (is_target image at) (jumps_of i) ≡ true
  targets_at at i h = (parts_at image sound at i (slice_get_within image.code at i h) h).targets

  bounded : (at sum : ℕ) → R at sum → sum ≤ path_from image w at
  bounded at sum (Stops i h e q) = let p = path_is image at w i h (targets_at at i h) in omega arith
  bounded at sum (Via i to rest h l m lt r q) =
      let p = path_step image at w i to h (targets_at at i h) m in
      let b = bounded to rest r in
      omega arith
  bounded at sum (Rounds l exit body rest h lt b r q) =
      let p = path_is image at w (instr.Loop l exit) h (targets_at at (instr.Loop l exit) h) in
      let x = bounded (at + 1) body b in
      let y = bounded exit rest r in
      let z : times_at image at * body ≤ times_at image at * path_from image w (at + 1) = mul-le-mul (omega arith) x in
      omega arith

  -- the next instruction is there, except after END
  next_inside : (at : ℕ) (i : Instr) → slice_get image.code at ≡ Some i → i ≢ End → at + 1 < length image.code
  next_inside at i h ne =
      let inside = slice_get_within image.code at i h in
      let other : at ≢ sound.ends.last = λ q. ne (let end : i ≡ End = cc (h, ap (slice_get image.code) q, sound.ends.ends) in end) in
      omega (arith, sound.ends.long)

  next : (at t : ℕ) (i : Instr) → slice_get image.code at ≡ Some i → i ≢ End → IsIn t ((at + 1) ∷ [])
      → t < length image.code
  next at t i h ne m = let n = next_inside at i h ne in ⊎_elim (λ e. omega arith) (λ x. absurd x) m

  jump : (at : ℕ) (i : Instr) → slice_get image.code at ≡ Some i → (u : ℕ) → IsIn u (jumps_of i) → u < length image.code
  jump at i h u m = (is_ahead image at u (every_in (is_target image at) (jumps_of i) u (targets_at at i h) m)).1

  pub targets_inside : (at : ℕ) (i : Instr) → slice_get image.code at ≡ Some i → (t : ℕ) → IsIn t (goes_to i at)
      → t < length image.code
  targets_inside at (AndTest to) h t m =
      ⊎_elim (λ e. let l = jump at (AndTest to) h to (inl refl) in omega arith) (λ n. next at t (AndTest to) h (λ q. cc) n) m
  targets_inside at (OrTest to) h t m =
      ⊎_elim (λ e. let l = jump at (OrTest to) h to (inl refl) in omega arith) (λ n. next at t (OrTest to) h (λ q. cc) n) m
  targets_inside at (Cond f g) h t m = ⊎_elim (λ e. next at t (Cond f g) h (λ q. cc) (inl e)) (λ n. jump at (Cond f g) h t n) m
  targets_inside at (Jump to) h t m = jump at (Jump to) h t m
  targets_inside at End h t m = absurd m
  targets_inside at (Const k) h t m = next at t (Const k) h (λ q. cc) m
  targets_inside at (Slot k) h t m = next at t (Slot k) h (λ q. cc) m
  targets_inside at (Op k) h t m = next at t (Op k) h (λ q. cc) m
  targets_inside at (WithText op k) h t m = next at t (WithText op k) h (λ q. cc) m
  targets_inside at (instr.List n) h t m = next at t (instr.List n) h (λ q. cc) m
  targets_inside at (instr.Map n) h t m = next at t (instr.Map n) h (λ q. cc) m
  targets_inside at And h t m = next at t And h (λ q. cc) m
  targets_inside at Or h t m = next at t Or h (λ q. cc) m
  targets_inside at (Local d) h t m = next at t (Local d) h (λ q. cc) m
  targets_inside at (instr.Loop l exit) h t m = jump at (instr.Loop l exit) h t m
  targets_inside at Item h t m = next at t Item h (λ q. cc) m
  targets_inside at When h t m = next at t When h (λ q. cc) m
  targets_inside at Next h t m = absurd m

  -- routes from an instruction, if those further on have theirs
  abbrev Further : ℕ → Type 0
  Further at = (t : ℕ) → at < t → t < length image.code → R t (path_from image w t)

  route_by : (at : ℕ) (i : Instr) → slice_get image.code at ≡ Some i → Further at → is_loop i ≡ false
      → rounds_of i (times_at image at) ≡ 0 → (ts : List ℕ) → goes_to i at ≡ ts → R at (path_from image w at)
  route_by at i h more l z [] e =
      let p = path_is image at w i h (targets_at at i h) in
      let g : greatest (path_from image w) (goes_to i at) ≡ 0 = ap (greatest (path_from image w)) e in
      let y : rounds_of i (times_at image at) * path_from image w (at + 1) ≡ 0 =
      ap (λ n. n * path_from image w (at + 1)) z ∙ search arith in
      Stops i h e (omega arith)
  route_by at i h more l z (t ∷ ts) e =
      let p = path_is image at w i h (targets_at at i h) in
      let g = greatest_one (path_from image w) t ts in
      let q : greatest (path_from image w) (goes_to i at) ≡ path_from image w g.0 = ap (greatest (path_from image w)) e ∙ g.2 in
      let m : IsIn g.0 (goes_to i at) = subst (IsIn g.0) (sym e) g.1 in
      let lt = ahead image at i (targets_at at i h) g.0 m in
      let y : rounds_of i (times_at image at) * path_from image w (at + 1) ≡ 0 =
      ap (λ n. n * path_from image w (at + 1)) z ∙ search arith in
      Via i g.0 (path_from image w g.0) h l m lt (more g.0 lt (targets_inside at i h g.0 m)) (omega arith)

  -- a loop counts a route through its body
  route_at : (at : ℕ) (i : Instr) → slice_get image.code at ≡ Some i → Further at → R at (path_from image w at)
  route_at at (instr.Loop l exit) h more =
      let p = path_is image at w (instr.Loop l exit) h (targets_at at (instr.Loop l exit) h) in
      let lt = ahead image at (instr.Loop l exit) (targets_at at (instr.Loop l exit) h) exit (inl refl) in
      let body = more (at + 1) (omega arith) (next_inside at (instr.Loop l exit) h (λ z. cc)) in
      let rest = more exit lt (targets_inside at (instr.Loop l exit) h exit (inl refl)) in
      Rounds l exit (path_from image w (at + 1)) (path_from image w exit) h lt body rest (omega arith)
  route_at at i h more = route_by at i h more refl refl (goes_to i at) refl

  route_from : (n at : ℕ) → length image.code ≤ at + n → at < length image.code → R at (path_from image w at)
  route_from zero at le lt = absurd (omega arith)
  route_from (suc n) at le lt =
      let i = get_some image.code at lt in
      route_at at i.0 i.1 (λ t more inside. route_from n t (omega arith) inside)

  pub greatest_path : IsGreatest (IsRouteSum image w) (path_from image w 0)
  greatest_path =
      record {
        bound = λ sum r. bounded 0 sum r;
        attained = route_from (length image.code) 0 (omega arith) (omega (arith, sound.ends.long));
      }
