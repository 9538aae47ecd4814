-- The pass over the sums of weights, from the last instruction to the first.
use Rattle.std.proofs.Common.{◌≡◌, ◌≢◌, ℕ, zero, suc, ◌+◌, ◌*◌, ◌<◌, min, List, [], ◌∷◌, length, replicate, Some}
use Rattle.std.proofs.Common.{sym, ap, ◌∙◌, subst, inl, inr, ⊎_elim, arith}
use Rattle.std.specs.Prelude.{slice_get, slice_index, slice_set}
use Rattle.std.proofs.lemmas.Bool.{cases_lt}
use Rattle.std.proofs.lemmas.List.{get_or_past, get_or-set_same, get_or-set_other, length-set, length-replicate, get_or-replicate}
use Rattle.std.proofs.lemmas.Option.{slice_get_within}
use Rattle.std.proofs.Math.Nat.{min-eq_left, min-eq_right}
use Rattle.cel_code.specs.declared.instr.Instr.{Instr}
use Rattle.cel_code.specs.declared.image.Image.{Image}
use Rattle.cel_verify.specs.Sound.{IsWalked}
use Rattle.cel_verify.specs.Paths.{goes_to, times_at}
use Rattle.cel_verify.specs.Walked.{AreWeights, behind, ceiling, rounds_of, greatest}
use Rattle.cel_verify.proofs.ToGo.{path_from, AreSums}
use Rattle.cel_verify.proofs.RuleParts.{parts_at}
use Rattle.cel_verify.proofs.PathSums.{greatest_same, ahead, path_is, path_past}

greatest_capped : (f : ℕ → ℕ) (cap : ℕ) (ts : List ℕ) → greatest (λ t. min (f t) cap) ts ≡ min (greatest f ts) cap
greatest_capped f cap [] = omega arith
greatest_capped f cap (t ∷ ts) = let r = greatest_capped f cap ts in omega arith

-- capped parts give the same capped sum
capped : (own rounds body rest cap : ℕ)
    → min (min own cap + rounds * min body cap + min rest cap) cap ≡ min (own + (rounds * body + rest)) cap
capped own zero body rest cap = omega arith
capped own (suc rounds) body rest cap = elim (cases_lt body cap) [
  | inl h ↦ rw (min-eq_left {n = body} {m = cap} (omega arith)) (omega arith)
  | inr h ↦ rw (min-eq_right {n = cap} {m = body} h) (omega arith)
]

pub sums_first : (image : Image) (weigh : ℕ → ℕ) (weights : List ℕ) → AreWeights weigh (length image.code) weights
    → AreSums image weigh (length image.code) weights
sums_first image weigh weights h =
    record {
      inside = omega arith;
      long = h.0;
      weights = h.1;
      paths = λ i le.
          let p = path_past image weigh i le in
          let q : slice_index weights i ≡ 0 = get_or_past weights i 0 (omega (arith, h.0)) in
          omega arith;
    }

-- a weight of 1 for each
pub ones_weigh : (n : ℕ) → AreWeights (λ _. 1) n (replicate n 1)
ones_weigh n = (length-replicate n 1, λ i lt. get_or-replicate n i 1 0 lt ∙ least)
  where
    least : 1 ≡ min 1 ceiling
    least = omega arith

-- an instruction's sum by those after it
sum_is : (image : Image) (sound : IsWalked image) (weigh : ℕ → ℕ) (sums : List ℕ) (at : ℕ) (i : Instr)
    → AreSums image weigh (at + 1) sums → slice_get image.code at ≡ Some i
    → min (slice_index sums at + rounds_of i (times_at image at) * slice_index sums (at + 1)
    + greatest (λ t. slice_index sums t) (goes_to i at)) ceiling
    ≡ min (path_from image weigh at) ceiling
sum_is image sound weigh sums at i k h =
    let lt = slice_get_within image.code at i h in
    let targets = (parts_at image sound at i lt h).targets in
    let far = ahead image at i targets in
    let path = path_from image weigh in
    let rounds = rounds_of i (times_at image at) in
    let a =
    greatest_same (λ t. slice_index sums t) (λ t. min (path_from image weigh t) ceiling) (goes_to i at)
    (λ t m. k.paths t (let l = far t m in omega arith)) in
    let b = greatest_capped (path_from image weigh) ceiling (goes_to i at) in
    let all = greatest (λ t. slice_index sums t) (goes_to i at) in
    ap (λ n. min (n + rounds * slice_index sums (at + 1) + all) ceiling) (k.weights at (omega arith))
    ∙ ap (λ n. min (min (weigh at) ceiling + rounds * n + all) ceiling) (k.paths (at + 1) (omega arith))
    ∙ ap (λ n. min (min (weigh at) ceiling + rounds * min (path (at + 1)) ceiling + n) ceiling) (a ∙ b)
    ∙ capped (weigh at) rounds (path (at + 1)) (greatest path (goes_to i at)) ceiling
    ∙ ap (λ n. min n ceiling) (sym (path_is image at weigh i h targets))

pub both_capped : (product rest body more sum cap : ℕ) → body ≡ min product cap → more ≡ rest → sum ≡ min (body + more) cap
    → sum ≡ min (product + rest) cap
both_capped product rest body more sum cap eb em es = omega arith

saturated : (own product rest more sum cap : ℕ) → more ≡ min (product + rest) cap → sum ≡ min (own + more) cap
    → sum ≡ min (own + product + rest) cap
saturated own product rest more sum cap em es = omega arith

-- one instruction earlier, by saturating arithmetic
pub sums_next : (image : Image) (sound : IsWalked image) (weigh : ℕ → ℕ) (sums : List ℕ) (at rest sum : ℕ) (i : Instr)
    → AreSums image weigh (at + 1) sums → slice_get image.code at ≡ Some i
    → rest ≡ min (behind sums (times_at image at) i at) ceiling → sum ≡ min (slice_index sums at + rest) ceiling
    → AreSums image weigh at (slice_set sums at sum)
sums_next image sound weigh sums at rest sum i k h eb e =
    let body = rounds_of i (times_at image at) * slice_index sums (at + 1) in
    let es = saturated (slice_index sums at) body (greatest (λ t. slice_index sums t) (goes_to i at)) rest sum ceiling eb e in
    let lt = slice_get_within image.code at i h in
    let inside : at < length sums = omega (arith, k.long) in
    let is : sum ≡ min (path_from image weigh at) ceiling = es ∙ sum_is image sound weigh sums at i k h in
    let new : slice_index (slice_set sums at sum) at ≡ sum = get_or-set_same sums at sum 0 inside in
    let other : (j : ℕ) → j ≢ at → slice_index (slice_set sums at sum) j ≡ slice_index sums j =
    λ j ne. get_or-set_other sums at j sum 0 ne in
    record {
      inside = omega arith;
      long = length-set sums at sum ∙ k.long;
      weights = λ j l. other j (omega arith) ∙ k.weights j (omega arith);
      paths = λ j le.
          ⊎_elim (λ less. other j (omega arith) ∙ k.paths j (omega arith))
          (λ not.
          let e : j ≡ at = omega arith in
          subst (λ n. slice_index (slice_set sums at sum) n ≡ min (path_from image weigh n) ceiling) (sym e) (new ∙ is))
          (cases_lt at j);
    }
