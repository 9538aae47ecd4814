-- The longest route has no more instructions than the code has for each charge of the dearest route, and for one charge more.
use Rattle.std.proofs.Common.{◌≡◌, ℕ, zero, suc, ◌+◌, ◌*◌, ◌<◌, ◌≤◌, List, [], ◌∷◌, length, Some}
use Rattle.std.proofs.Common.{refl, ap, ◌∙◌, subst, inl, inr, arith, mul-le-mul_left}
use Rattle.std.specs.Prelude.{slice_get}
use Rattle.cel_code.specs.declared.instr.Instr.{Instr}
use Rattle.cel_code.specs.declared.instr.Instr.TheVariants.{Item}
use Rattle.cel_code.specs.declared.instr.Instr.TheVariants as instr
use Rattle.cel_code.specs.declared.image.Image.{Image}
use Rattle.cel_verify.specs.StackTypes.{StackTypes}
use Rattle.cel_verify.specs.Sound.{label_at, IsWalked}
use Rattle.cel_verify.specs.Paths.{charge_of, charge_in, goes_to, times_at}
use Rattle.cel_verify.specs.Paths.{charge_at, IsIn}
use Rattle.cel_verify.specs.Walked.{greatest, rounds_of}
use Rattle.cel_verify.proofs.ToGo.{path_from, path_cost, path_steps}
use Rattle.cel_verify.proofs.Falling.{get_some}
use Rattle.cel_verify.proofs.RuleParts.{parts_at}
use Rattle.cel_verify.proofs.PathSums.{ahead, path_is, path_step}
use Rattle.cel_verify.proofs.Routes.{targets_at, targets_inside}
use Rattle.cel_verify.proofs.Nests.{looped}

-- the sums of ITEM and of LOOP
item_sum : (n c s : ℕ) → s ≤ n * (1 + c) → 1 + s ≤ suc n * (1 + c)
item_sum n c s h = omega arith

loop_sum : (n times a b s e : ℕ) → s ≤ n * a → e ≤ n * (1 + b) → 1 + (times * s + e) ≤ suc n * (1 + (1 + (times * a + b)))
loop_sum n times a b s e h k =
    let m : times * s ≤ times * (n * a) = mul-le-mul_left times h in
    omega arith

module _ (image : Image) (sound : IsWalked image) where
  abbrev steps : ℕ → ℕ
  steps at = path_from image (λ _. 1) at

  abbrev cost : ℕ → ℕ
  cost at = path_from image (charge_at image) at

  -- so many instructions for each charge from here on, and one; ITEM is charged itself
  record Few (n at : ℕ) : Type 0 where
    few : steps at ≤ n * (1 + cost at)
    fewer : slice_get image.code at ≡ Some Item → steps at ≤ n * cost at

  abbrev Further : ℕ → ℕ → Type 0
  Further n at = (t : ℕ) → at < t → t < length image.code → Few n t

  charge_is : (at : ℕ) (i : Instr) (n : ℕ) → at < length image.code → slice_get image.code at ≡ Some i
      → ((ts : StackTypes) → charge_of image.constants i ts ≡ n) → charge_at image at ≡ n
  charge_is at i n lt h e =
      let p = parts_at image sound at i lt h in
      ap (λ o. charge_in image.constants o (label_at image at).types) h ∙ ap (charge_in image.constants (Some i)) p.is ∙ e p.here

  greatest_few : (n c : ℕ) (ts : List ℕ) → ((t : ℕ) → IsIn t ts → steps t ≤ n * (1 + c)) → greatest steps ts ≤ n * (1 + c)
  greatest_few n c [] h = omega arith
  greatest_few n c (t ∷ ts) h =
      let a = h t (inl refl) in
      let r = greatest_few n c ts (λ u m. h u (inr m)) in
      omega arith

  plain_few : (n at : ℕ) (i : Instr) → slice_get image.code at ≡ Some i → rounds_of i (times_at image at) ≡ 0
      → Further n at → steps at ≤ suc n * (1 + cost at)
  plain_few n at i h z more =
      let targets = targets_at image sound (λ _. 1) at i h in
      let p = path_is image at (λ _. 1) i h targets in
      let y : rounds_of i (times_at image at) * steps (at + 1) ≡ 0 = ap (λ m. m * steps (at + 1)) z ∙ search arith in
      let each : (t : ℕ) → IsIn t (goes_to i at) → steps t ≤ n * (1 + cost at) =
      λ t m.
      let own = (more t (ahead image at i targets t m) (targets_inside image sound (λ _. 1) at i h t m)).few in
      let less = path_step image at (charge_at image) i t h targets m in
      let wide : n * (1 + cost t) ≤ n * (1 + cost at) = mul-le-mul_left n (omega arith) in
      omega arith in
      let g = greatest_few n (cost at) (goes_to i at) each in
      omega arith

  item_fewer : (n at : ℕ) → slice_get image.code at ≡ Some Item → at < length image.code → Further n at
      → steps at ≤ suc n * cost at
  item_fewer n at h lt more =
      let targets = targets_at image sound (λ _. 1) at Item h in
      let p = path_is image at (λ _. 1) Item h targets in
      let q = path_is image at (charge_at image) Item h targets in
      let one = charge_is at Item 1 lt h (λ ts. refl) in
      let own = (more (at + 1) (omega arith) (targets_inside image sound (λ _. 1) at Item h (at + 1) (inl refl))).few in
      let c : 1 + cost (at + 1) ≡ cost at = omega arith in
      let sum = item_sum n (cost (at + 1)) (steps (at + 1)) own in
      subst (λ m. steps at ≤ suc n * m) c (omega arith)

  loop_few : (n at l exit : ℕ) → slice_get image.code at ≡ Some (instr.Loop l exit) → at < length image.code
      → Further n at → steps at ≤ suc n * (1 + cost at)
  loop_few n at l exit h lt more =
      let r = looped image sound at l exit h in
      let far = r.far in
      let targets = targets_at image sound (λ _. 1) at (instr.Loop l exit) h in
      let p = path_is image at (λ _. 1) (instr.Loop l exit) h targets in
      let q = path_is image at (charge_at image) (instr.Loop l exit) h targets in
      let one = charge_is at (instr.Loop l exit) 1 lt h (λ ts. refl) in
      let body = (more (at + 1) (omega arith) (omega (arith, r.inside))).fewer r.item in
      let rest = (more exit (omega arith) r.inside).few in
      let c : 1 + (times_at image at * cost (at + 1) + cost exit) ≡ cost at = omega arith in
      let sum = loop_sum n (times_at image at) (cost (at + 1)) (cost exit) (steps (at + 1)) (steps exit) body rest in
      subst (λ m. steps at ≤ suc n * (1 + m)) c (omega arith)

  few_at : (n at : ℕ) (i : Instr) → slice_get image.code at ≡ Some i → at < length image.code → Further n at → Few (suc n) at
  few_at n at (instr.Loop l exit) h lt more =
      record { few = loop_few n at l exit h lt more; fewer = λ e. let z : ⊥ = cc (h, e) in absurd z }
  few_at n at Item h lt more = record { few = plain_few n at Item h refl more; fewer = λ e. item_fewer n at e lt more }
  few_at n at i h lt more = record { few = plain_few n at i h refl more; fewer = λ e. let z : ⊥ = cc (h, e) in absurd z }

  few_from : (n at : ℕ) → length image.code ≤ at + n → at < length image.code → Few n at
  few_from zero at le lt = absurd (omega arith)
  few_from (suc n) at le lt =
      let i = get_some image.code at lt in
      few_at n at i.0 i.1 lt (λ t less inside. few_from n t (omega arith) inside)

  pub steps_bound : path_steps image ≤ length image.code * (1 + path_cost image)
  steps_bound = (few_from (length image.code) 0 (omega arith) (omega (arith, sound.ends.long))).few
