-- What fills slots.
use Rattle.std.proofs.Common.{◌≡◌, ℕ, zero, suc, true, List, [], ◌∷◌, Some, sym, subst, true≢false}
use Rattle.std.proofs.lemmas.Bool.{and_parts}
use Rattle.std.proofs.lemmas.Option.{none-some, same_Some}
use Rattle.std.specs.Prelude.{slice_get}
use Rattle.cel_value.specs.declared.cel_type.CelType.{CelType}
use Rattle.cel_operators.specs.Outcomes.{Outcome, outcome_fits, slots_fit}

-- what a slot holds is of its type
pub slot_fits : (n : ℕ) (ts : List CelType) (xs : List Outcome) → slots_fit ts xs ≡ true → (s : CelType) → slice_get ts n ≡ Some s
    → outcome_fits s (slice_get xs n) ≡ true
slot_fits n [] xs h s e = absurd (none-some s e)
slot_fits n (t ∷ ts) [] h s e = absurd (true≢false (sym h))
slot_fits zero (t ∷ ts) (x ∷ xs) h s e =
    subst (λ u. outcome_fits u (Some x) ≡ true) (same_Some _ _ e) (and_parts (outcome_fits t (Some x)) (slots_fit ts xs) h).0
slot_fits (suc n) (t ∷ ts) (x ∷ xs) h s e =
    slot_fits n ts xs (and_parts (outcome_fits t (Some x)) (slots_fit ts xs) h).1 s e
