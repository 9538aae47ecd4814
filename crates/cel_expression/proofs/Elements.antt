-- Elements of a list with one more, and of a list with another at a place.
use Rattle.std.proofs.Common.{◌≡◌, ◌≢◌, ℕ, zero, suc, ◌<◌, List, [], ◌∷◌, ◌++◌, length, Some, refl, ap, arith}
use Rattle.std.specs.Prelude.{slice_get, slice_set, Contains}
use Rattle.cel_value.specs.declared.value.Value.{Value}

-- one element more
pub get_before : {X : Type 0} (xs : List X) (y : X) (i : ℕ) → i < length xs → slice_get (xs ++ y ∷ []) i ≡ slice_get xs i
get_before [] y i h = absurd (omega arith)
get_before (x ∷ xs) y zero h = refl
get_before (x ∷ xs) y (suc i) h = get_before xs y i (omega arith)

pub get_last : {X : Type 0} (xs : List X) (y : X) → slice_get (xs ++ y ∷ []) (length xs) ≡ Some y
get_last [] y = refl
get_last (x ∷ xs) y = get_last xs y

pub get_kept : {X : Type 0} (xs : List X) (y : X) (i : ℕ) (x : X) → slice_get xs i ≡ Some x
    → slice_get (xs ++ y ∷ []) i ≡ Some x
get_kept [] y i x h = cc
get_kept (x' ∷ xs) y zero x h = h
get_kept (x' ∷ xs) y (suc i) x h = get_kept xs y i x h

pub contains_at : (us : List Value) (k : ℕ) (v : Value) → slice_get us k ≡ Some v → Contains us v
contains_at [] k v h = cc
contains_at (u ∷ us) zero v h = (0, omega arith, cc)
contains_at (u ∷ us) (suc k) v h = let (n, within, is) = contains_at us k v h in (suc n, omega arith, is)

-- another element at a place
pub get_set : {X : Type 0} (xs : List X) (m : ℕ) (y : X) → m < length xs → slice_get (slice_set xs m y) m ≡ Some y
get_set [] m y h = absurd (omega arith)
get_set (x ∷ xs) zero y h = refl
get_set (x ∷ xs) (suc m) y h = get_set xs m y (omega arith)

pub get_beside : {X : Type 0} (xs : List X) (m : ℕ) (y : X) (i : ℕ) → i ≢ m → slice_get (slice_set xs m y) i ≡ slice_get xs i
get_beside [] m y i h = refl
get_beside (x ∷ xs) zero y zero h = absurd (h refl)
get_beside (x ∷ xs) zero y (suc i) h = refl
get_beside (x ∷ xs) (suc m) y zero h = refl
get_beside (x ∷ xs) (suc m) y (suc i) h = get_beside xs m y i (λ e. h (ap suc e))
