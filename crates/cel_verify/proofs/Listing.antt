-- Items off a stack: as many outcomes as types, which they fit.
use Rattle.std.proofs.Common.{◌≡◌, ℕ, zero, suc, ◌+◌, List, [], ◌∷◌, ◌++◌, length, map, Some, refl, ap, subst, arith}
use Rattle.std.proofs.lemmas.Option.{none-some, same_Some}
use Rattle.std.specs.Prelude.{Ok}
use Rattle.cel_value.specs.declared.cel_type.CelType.{CelType}
use Rattle.cel_operators.specs.Outcomes.{Outcome}
use Rattle.cel_operators.specs.Lists.{in_front, each_there, list_made, list_where, items_type}
use Rattle.cel_operators.specs.Maps.{map_made, map_where, entries_type, entries_greatest}
use Rattle.cel_operators.proofs.Rows.{MadeRight}
use Rattle.cel_operators.proofs.Literals.{EachFits, literal_made}
use Rattle.cel_operators.proofs.MapLiterals.{Paired, literal_map_made}
use Rattle.cel_code.specs.Machine.{taken_off}
use Rattle.cel_verify.specs.StackTypes.{StackTypes, AllFit}

pub taken_long : (n : ℕ) (us ts : StackTypes) (p : StackTypes × StackTypes) → taken_off n us ts ≡ Some p
    → length p.0 ≡ n + length us
taken_long zero us ts p e = let same : (us, ts) ≡ p = same_Some _ _ e in omega (arith, ap (λ z. length z.0) same)
taken_long (suc n) us [] p e = absurd (none-some _ e)
taken_long (suc n) us (t ∷ ts) p e = let r = taken_long n (t ∷ us) ts p e in omega (arith, r)

-- what is taken fits what is taken of the types, and so does what is below
pub taken_fit : (n : ℕ) (us : StackTypes) (xs : List Outcome) (ts : StackTypes) (stack : List Outcome) (rest : StackTypes)
    (p : StackTypes × StackTypes) → taken_off n us ts ≡ Some p → AllFit xs us → AllFit stack (ts ++ rest)
    → (q : List Outcome × List Outcome) × (taken_off n xs stack ≡ Some q) × AllFit q.0 p.0 × AllFit q.1 (p.1 ++ rest)
taken_fit zero us xs ts stack rest p e f g =
    let same : (us, ts) ≡ p = same_Some _ _ e in
    ((xs, stack), refl, subst (λ z. AllFit xs z.0) same f, subst (λ z. AllFit stack (z.1 ++ rest)) same g)
taken_fit (suc n) us xs [] stack rest p e f g = absurd (none-some _ e)
taken_fit (suc n) us xs (t ∷ ts) [] rest p e f g = absurd g
taken_fit (suc n) us xs (t ∷ ts) (x ∷ stack) rest p e f g = taken_fit n (t ∷ us) (x ∷ xs) ts stack rest p e (g.0, f) g.1

each_fits : (ts : StackTypes) (xs : List Outcome) → AllFit xs ts → EachFits ts (map Some xs)
each_fits [] [] h = tt
each_fits [] (x ∷ xs) h = absurd h
each_fits (t ∷ ts) [] h = absurd h
each_fits (t ∷ ts) (x ∷ xs) h = (h.0, each_fits ts xs h.1)

all_there : (xs : List Outcome) → each_there (map Some xs) ≡ Some xs
all_there [] = refl
all_there (x ∷ xs) = ap (in_front (Some x)) (all_there xs)

-- a list of items that fit their types gives what its type takes, for at most 1 and 1 for each
pub listed_made : (ts : StackTypes) (xs : List Outcome) (s : CelType) → items_type ts ≡ Ok s → AllFit xs ts
    → MadeRight s (Some (list_made xs)) (1 + length ts)
listed_made ts xs s e h =
    subst (λ o. MadeRight s (list_where o) (1 + length ts)) (all_there xs) (literal_made ts (map Some xs) s e (each_fits ts xs h))

-- twice as many are keys and values by turns
pub paired_twice : {A : Type 0} (n : ℕ) (xs : List A) → length xs ≡ n + n → Paired xs
paired_twice zero [] e = tt
paired_twice zero (x ∷ xs) e = absurd (omega (arith, e))
paired_twice (suc n) [] e = absurd (omega (arith, e))
paired_twice (suc n) (x ∷ []) e = absurd (omega (arith, e))
paired_twice (suc n) (x ∷ y ∷ xs) e = paired_twice n xs (omega (arith, e))

-- a map of keys and values that fit their types gives what its type takes, for at most its greatest charge
pub mapped_made : (ts : StackTypes) (xs : List Outcome) (s : CelType) → Paired ts → entries_type ts ≡ Ok s → AllFit xs ts
    → MadeRight s (map_made xs) (entries_greatest ts)
mapped_made ts xs s p e h =
    subst (λ o. MadeRight s (map_where o) (entries_greatest ts)) (all_there xs)
    (literal_map_made ts (map Some xs) s p e (each_fits ts xs h))
