-- Pieces that go on with bytes of one set.
use Rattle.std.proofs.Common.{◌≡◌, ℕ, zero, suc, ◌+◌, ◌<◌, ◌≤◌, Bool, true, false, cond}
use Rattle.std.proofs.Common.{List, [], ◌∷◌, length, take, Some, None, refl, ap, ◌∙◌, arith}
use Rattle.std.specs.List.{list_all, prefix_len}
use Rattle.std.proofs.lemmas.List.Sums.{prefix_len-le-length}
use Rattle.std.proofs.Math.Numerals.{one-add}
use Rattle.cel_lex.specs.declared.piece.Piece.{Piece}
use Rattle.cel_lex.specs.Symbols.{run_of}
use Rattle.cel_lex.specs.Lexis.{piece_of, IsNext}

front_passes_by : (p : ℕ → Bool) (x : ℕ) (xs : List ℕ) (b : Bool) → p x ≡ b → list_all p (take (prefix_len p xs) xs) ≡ true
    → list_all p (take (cond b (1 + prefix_len p xs) 0) (x ∷ xs)) ≡ true
front_passes_by p x xs true e h = rw (one-add, e) h
front_passes_by p x xs false e h = refl

pub front_passes : (p : ℕ → Bool) (xs : List ℕ) → list_all p (take (prefix_len p xs) xs) ≡ true
front_passes p [] = refl
front_passes p (x ∷ xs) = front_passes_by p x xs (p x) refl (front_passes p xs)

longer_fails_by : (p : ℕ → Bool) (x : ℕ) (xs : List ℕ) (m : ℕ) (b : Bool) → p x ≡ b
    → (prefix_len p xs < m → m ≤ length xs → list_all p (take m xs) ≡ false) → cond b (1 + prefix_len p xs) 0 < suc m
    → suc m ≤ suc (length xs) → list_all p (take (suc m) (x ∷ xs)) ≡ false
longer_fails_by p x xs m true e h lt le = rw e (h (omega arith) (omega arith))
longer_fails_by p x xs m false e h lt le = rw e refl

pub longer_fails : (p : ℕ → Bool) (xs : List ℕ) (m : ℕ) → prefix_len p xs < m → m ≤ length xs
    → list_all p (take m xs) ≡ false
longer_fails p [] m lt le = absurd (omega arith)
longer_fails p (x ∷ xs) zero lt le = absurd (omega arith)
longer_fails p (x ∷ xs) (suc m) lt le = longer_fails_by p x xs m (p x) refl (longer_fails p xs m) lt le

stops_by : (n : ℕ) (b : Bool) → cond b (1 + n) 0 ≤ 0 → 0 ≡ cond b (1 + n) 0
stops_by n true le = absurd (omega arith)
stops_by n false le = refl

shorter_by : (n m : ℕ) (b : Bool) → cond b (1 + n) 0 ≤ suc m → b ≡ true → n ≤ m
shorter_by n m true le e = omega arith
shorter_by n m false le e = absurd cc

more_by : (b : Bool) (n k : ℕ) → (b ≡ true → n ≡ k) → cond b (1 + n) 0 ≡ cond b (1 + k) 0
more_by true n k h = ap (λ (x : ℕ). 1 + x) (h refl)
more_by false n k h = refl

-- a front that reaches to the end of the run has the same run
pub front_len : (p : ℕ → Bool) (xs : List ℕ) (m : ℕ) → prefix_len p xs ≤ m → prefix_len p (take m xs) ≡ prefix_len p xs
front_len p [] zero le = refl
front_len p [] (suc m) le = refl
front_len p (x ∷ xs) zero le = stops_by (prefix_len p xs) (p x) le
front_len p (x ∷ xs) (suc m) le =
    more_by (p x) (prefix_len p (take m xs)) (prefix_len p xs) (λ e. front_len p xs m (shorter_by (prefix_len p xs) m (p x) le e))

-- a piece that is a first byte and then a run
pub record IsRun (c : ℕ) (rest : List ℕ) (p : ℕ → Bool) (what : List ℕ → Piece) : Type 0 where
  pub reads : (m : ℕ) → piece_of (c ∷ take m rest) ≡ run_of p (what (c ∷ take m rest)) (take m rest)

pub run_next : (c : ℕ) (rest : List ℕ) (p : ℕ → Bool) (what : List ℕ → Piece) → IsRun c rest p what
    → IsNext (c ∷ rest) (1 + prefix_len p rest) (what (take (1 + prefix_len p rest) (c ∷ rest)))
run_next c rest p what r =
    let le = prefix_len-le-length p rest in
    let n = prefix_len p rest in
    let is : take (1 + n) (c ∷ rest) ≡ c ∷ take n rest = rw one-add refl in
    let here : piece_of (take (1 + n) (c ∷ rest)) ≡ Some (what (take (1 + n) (c ∷ rest))) =
    rw is (r.reads n ∙ ap (λ b. cond b (Some (what (c ∷ take n rest))) None) (front_passes p rest)) in
    record { some = omega arith; here = omega arith; piece = here; longest = longer n le }
  where
    longer : (n : ℕ) → n ≤ length rest → (m : ℕ) → 1 + prefix_len p rest < m → m ≤ length (c ∷ rest)
        → piece_of (take m (c ∷ rest)) ≡ None
    longer n le zero lt le' = absurd (omega arith)
    longer n le (suc m) lt le' =
        r.reads m ∙ ap (λ b. cond b (Some (what (c ∷ take m rest))) None) (longer_fails p rest m (omega arith) (omega arith))
