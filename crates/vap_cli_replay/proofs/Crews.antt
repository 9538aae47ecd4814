-- Properties of all elements of a beginning of a list.
use Rattle.std.proofs.Common.{◌≡◌, ℕ, ◌+◌, ◌<◌, ◌≤◌, List, [], ◌∷◌, ◌++◌, length, take, get_or, sym, ap, subst, ◌∙◌}
use Rattle.std.proofs.Common.{add-one, zero, suc, arith}
use Rattle.std.proofs.lemmas.List.{take_all}
use Rattle.std.proofs.lemmas.List.Elements.{All-append}
use Rattle.std.proofs.Math.Seq.{take-suc}
use Rattle.std.specs.List.{All}

module _ {X : Type 0} where
  all_one : (P : X → Type 0) (x : X) → P x → All P (x ∷ [])
  all_one P x p zero d lt = p
  all_one P x p (suc k) d lt = absurd (omega arith)

  -- a property of all elements of a beginning, and of one more element
  pub all_next : (P : X → Type 0) (xs : List X) (i : ℕ) (x : X) → i < length xs → x ≡ get_or xs i x → P x → All P (take i xs)
      → All P (take (i + 1) xs)
  all_next P xs i x within is p all =
      let step : take (i + 1) xs ≡ take i xs ++ x ∷ [] =
      rw add-one (take-suc xs i x within ∙ ap (λ (y : X). take i xs ++ y ∷ []) (sym is)) in
      subst (All P) (sym step) (All-append P (take i xs) (x ∷ []) all (all_one P x p))

  -- a property of all of some elements, and of one after them
  pub all_last : (P : X → Type 0) (xs all : List X) (x : X) → All P xs → P x → all ≡ xs ++ x ∷ [] → All P all
  all_last P xs all x each here whole = subst (All P) (sym whole) (All-append P xs (x ∷ []) each (all_one P x here))

  -- the beginning is the whole
  pub all_whole : (P : X → Type 0) (xs : List X) (i : ℕ) → length xs ≤ i → All P (take i xs) → All P xs
  all_whole P xs i whole all = subst (All P) (take_all i xs whole) all
