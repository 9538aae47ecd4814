-- Two lists that are compared item by item.
use Rattle.std.proofs.Common.{◌≡◌, ◌≢◌, ℕ, zero, suc, ◌+◌, ◌-◌, ◌<◌, ◌≤◌, Bool, true, false, ◌&&◌, List, [], ◌∷◌, ◌++◌, length}
use Rattle.std.proofs.Common.{take, get_or, refl, ap, ◌∙◌, arith}
use Rattle.std.specs.Prelude.{reverse}
use Rattle.std.proofs.lemmas.List.{reverse-append}
use Rattle.cel_value.specs.declared.cel_type.CelType.{CelType}
use Rattle.cel_value.specs.CelType.{assignable}
use Rattle.cel_verify.specs.StackTypes.{StackTypes, all_assignable}

-- lists of different lengths
pub types_long : (ss ts : StackTypes) → length ss ≢ length ts → all_assignable ss ts ≡ false
types_long [] [] ne = absurd (ne refl)
types_long [] (t ∷ ts) ne = refl
types_long (s ∷ ss) [] ne = refl
types_long (s ∷ ss) (t ∷ ts) ne =
    let r = types_long ss ts (λ e. ne (ap suc e)) in ap (λ b. assignable s t && b) r ∙ last (assignable s t)
  where
    last : (b : Bool) → (b && false) ≡ false
    last true = refl
    last false = refl

-- a list by all but its last
last_one : {A : Type 0} (n : ℕ) (xs : List A) (t : A) → length xs ≡ n + 1 → t ≡ get_or xs n t → xs ≡ take n xs ++ t ∷ []
last_one zero [] t e p = absurd (omega (arith, e))
last_one zero (a ∷ []) t e p = cc p
last_one zero (a ∷ b ∷ xs) t e p = absurd (omega (arith, e))
last_one (suc n) [] t e p = absurd (omega (arith, e))
last_one (suc n) (x ∷ xs) t e p = ap (λ l. x ∷ l) (last_one n xs t (omega (arith, e)) p)

pub its_last : {A : Type 0} (xs : List A) (t : A) → 1 ≤ length xs → t ≡ get_or xs (length xs - 1) t
    → xs ≡ take (length xs - 1) xs ++ t ∷ []
its_last xs t h p = last_one (length xs - 1) xs t (omega (arith, h)) p

-- a type more on top of others
pub under_none : (top : CelType) (ss es : StackTypes) → length es < 1 → false ≡ all_assignable (top ∷ ss) (reverse es)
under_none top ss [] h = refl
under_none top ss (t ∷ es) h = absurd (omega (arith, h))

pub under_is : (top t : CelType) (ss below es : StackTypes) → es ≡ below ++ t ∷ []
    → all_assignable (top ∷ ss) (reverse es) ≡ (assignable top t && all_assignable ss (reverse below))
under_is top t ss below es e =
    ap (λ xs. all_assignable (top ∷ ss) (reverse xs)) e ∙ ap (all_assignable (top ∷ ss)) (reverse-append below (t ∷ []))
