-- What slots hold, one after another.
use Rattle.std.proofs.Common.{◌≡◌, ℕ, zero, suc, ◌+◌, ◌<◌, Bool, true, false, not, ◌&&◌, List, [], ◌∷◌, length, drop, get_or, Option, Some}
use Rattle.std.proofs.Common.{None, refl, sym, ap, ◌∙◌, arith, add-one}
use Rattle.std.proofs.lemmas.Bool.{false≢true}
use Rattle.std.specs.Prelude.{slice_get, is_none, is_some, option_map}
use Rattle.std.proofs.lemmas.Option.{none-some, same_Some}
use Rattle.cel_value.specs.declared.cel_type.CelType.{CelType}
use Rattle.cel_operators.specs.Outcomes.{Outcome, outcome_fits, slots_fit}

there : {A : Type 0} (n : ℕ) (ts : List A) (t : A) → n < length ts → t ≡ get_or ts n t → slice_get ts n ≡ Some t
there n [] t lt is = absurd (omega (arith, lt))
there zero (u ∷ ts) t lt is = ap Some (sym is)
there (suc n) (u ∷ ts) t lt is = there n ts t (omega (arith, lt)) is

-- if no slot is left, none holds what is of a type
next_none : (n : ℕ) (ts : List CelType) (t : CelType) → slice_get ts n ≡ Some t → slots_fit (drop n ts) [] ≡ false
next_none n [] t h = absurd (none-some t h)
next_none zero (u ∷ ts) t h = refl
next_none (suc n) (u ∷ ts) t h = next_none n ts t h

-- a slot, and those after it
pub next_fits : (n : ℕ) (ts : List CelType) (xs : List Outcome) (t : CelType) → slice_get ts n ≡ Some t
    → slots_fit (drop n ts) (drop n xs) ≡ (outcome_fits t (slice_get xs n) && slots_fit (drop (suc n) ts) (drop (suc n) xs))
next_fits n [] xs t h = absurd (none-some t h)
next_fits zero (u ∷ ts) [] t h = refl
next_fits zero (u ∷ ts) (x ∷ xs) t h = ap (λ v. outcome_fits v (Some x) && slots_fit ts xs) (same_Some u t h)
next_fits (suc n) (u ∷ ts) [] t h = next_none n ts t h
next_fits (suc n) (u ∷ ts) (x ∷ xs) t h = next_fits n ts xs t h

none_left : (ts : List CelType) → slots_fit (drop (length ts) ts) [] ≡ true
none_left [] = refl
none_left (t ∷ ts) = none_left ts

-- after the last type there is no slot
pub none_behind : (ts : List CelType) (xs : List Outcome)
    → slots_fit (drop (length ts) ts) (drop (length ts) xs) ≡ is_none (slice_get xs (length ts))
none_behind [] [] = refl
none_behind [] (x ∷ xs) = refl
none_behind (t ∷ ts) [] = none_left ts
none_behind (t ∷ ts) (x ∷ xs) = none_behind ts xs

-- the same of the type at a number
pub next_at : (n : ℕ) (ts : List CelType) (xs : List Outcome) (t : CelType) → n < length ts → t ≡ get_or ts n t
    → slots_fit (drop n ts) (drop n xs) ≡ (outcome_fits t (slice_get xs n) && slots_fit (drop (n + 1) ts) (drop (n + 1) xs))
next_at n ts xs t lt is =
    next_fits n ts xs t (there n ts t lt is)
    ∙ ap (λ m. outcome_fits t (slice_get xs n) && slots_fit (drop m ts) (drop m xs)) (sym (add-one n))

-- what is lent is none if what it is lent from is none
pub none_lent : {A B : Type 0} (f : A → B) (o : Option A) (p : Option B) (b : Bool) → option_map f o ≡ p → is_some o ≡ not b
    → b ≡ is_none p
none_lent f None p true h k = ap is_none h
none_lent f None p false h k = absurd (false≢true k)
none_lent f (Some x) p true h k = absurd (false≢true (sym k))
none_lent f (Some x) p false h k = ap is_none h
