-- A list literal gives an error or a list of its type, for at most its greatest charge.
use Rattle.std.proofs.Common.{◌≡◌, ℕ, suc, ◌+◌, ◌^◌, cond, Bool, true, false, List, [], ◌∷◌, length, map}
use Rattle.std.proofs.Common.{Option, Some, None, refl, sym, ap, ◌∙◌, subst, arith, true≢false, le-leb}
use Rattle.std.specs.Prelude.{Result, Ok, Err, nat_lt, nat_le}
use Rattle.std.specs.List.{list_all}
use Rattle.std.proofs.lemmas.Option.{none-some, same_Some}
use Rattle.std.proofs.lemmas.Bool.{and_from}
use Rattle.cel_value.specs.declared.value.Value.{Value}
use Rattle.cel_value.specs.declared.value.Value as value
use Rattle.cel_value.specs.declared.value.Value.TheOpen.{Value-F}
use Rattle.cel_value.specs.declared.cel_type.CelType.{CelType}
use Rattle.cel_value.specs.declared.cel_type.CelType as type
use Rattle.cel_value.specs.declared.cel_type.CelType.TheOpen.{CelType-F}
use Rattle.cel_value.specs.declared.cel_error.CelError.{CelError}
use Rattle.cel_value.specs.CelType.{fits, join}
use Rattle.cel_value.proofs.Above.{IsAbove, join-above}
use Rattle.cel_value.proofs.Soundness.{IsWithin-from_assignable}
use Rattle.cel_operators.specs.declared.type_rule.TypeRule.{TypeRule}
use Rattle.cel_operators.specs.Outcomes.{Outcome, outcome_fits}
use Rattle.cel_operators.specs.Lists.{in_front, each_there, leftmost, values_in, list_of, list_where}
use Rattle.cel_operators.specs.Lists.{join_behind, join_all, plain_list, items_type}
use Rattle.cel_operators.proofs.Opened.{fits-levels, out-List, out-type-List}
use Rattle.cel_operators.proofs.Rows.{MadeRight}

-- one outcome for each type, and it is of that type
abbrev pub EachFits : List CelType → List (Option Outcome) → Type 0
EachFits [] [] = Unit {0}
EachFits (t ∷ ts) (o ∷ os) = (outcome_fits t o ≡ true) × EachFits ts os
EachFits _ _ = ⊥

-- what is of one type is of the other
abbrev pub Narrower : CelType → CelType → Type 0
Narrower s t = (v : Value) → fits v s ≡ true → fits v t ≡ true

-- what is of one of the types is of the last
abbrev pub Below : List CelType → CelType → Type 0
Below [] u = Unit {0}
Below (t ∷ ts) u = Narrower t u × Below ts u

none_behind : (ts : List CelType) → join_behind None ts ≡ None
none_behind [] = refl
none_behind (t ∷ ts) = none_behind ts

pub joined_behind : (ts : List CelType) (s u : CelType) → join_behind (Some s) ts ≡ Some u → Narrower s u × Below ts u
joined_behind [] s u e = (λ v h. subst (λ t. fits v t ≡ true) (same_Some _ _ e) h, tt)
joined_behind (t ∷ ts) s u e = by (join s t) refl e (λ w k. joined_behind ts w u k)
  where
    by : (o : Option CelType) → join s t ≡ o → join_behind o ts ≡ Some u
        → ((w : CelType) → join_behind (Some w) ts ≡ Some u → Narrower w u × Below ts u) → Narrower s u × Below (t ∷ ts) u
    by None q k more = absurd (none-some _ (sym (none_behind ts) ∙ k))
    by (Some w) q k more =
        let above : IsAbove s t (Some w) = subst (IsAbove s t) q (join-above s t) in
        let r = more w k in
        (λ v h. r.0 v ((IsWithin-from_assignable w s above.0).1 v h), (λ v h. r.0 v ((IsWithin-from_assignable w t above.1).1 v h), r.1))

-- so many values of a type, or an error
abbrev AreOf : CelType → ℕ → Result (List Value) CelError → Type 0
AreOf u n (Err e) = Unit {0}
AreOf u n (Ok vs) = (length vs ≡ n) × (list_all (λ v. fits v u) vs ≡ true)

leftmost_are : (u : CelType) (n : ℕ) (x : Outcome) (r : Result (List Value) CelError) → outcome_fits u (Some x) ≡ true → AreOf u n r
    → AreOf u (suc n) (leftmost x r)
leftmost_are u n (Err e) r h k = tt
leftmost_are u n (Ok v) (Err e) h k = tt
leftmost_are u n (Ok v) (Ok vs) h k = (ap suc k.0, and_from (fits v u) (list_all (λ v. fits v u) vs) h k.1)

-- outcomes that are there; each is an error or of the type
abbrev ThereOf : CelType → ℕ → Option (List Outcome) → Type 0
ThereOf u n None = ⊥
ThereOf u n (Some xs) = AreOf u n (values_in xs)

in_front_of : (u : CelType) (n : ℕ) (o : Option Outcome) (os : Option (List Outcome)) → outcome_fits u o ≡ true → ThereOf u n os
    → ThereOf u (suc n) (in_front o os)
in_front_of u n None os h k = absurd (true≢false (sym h))
in_front_of u n (Some x) None h k = k
in_front_of u n (Some x) (Some xs) h k = leftmost_are u n x (values_in xs) h k

pub narrower_fits : (s u : CelType) (o : Option Outcome) → Narrower s u → outcome_fits s o ≡ true → outcome_fits u o ≡ true
narrower_fits s u None f h = h
narrower_fits s u (Some (Err e)) f h = h
narrower_fits s u (Some (Ok v)) f h = f v h

there_of : (ts : List CelType) (os : List (Option Outcome)) (u : CelType) → Below ts u → EachFits ts os
    → ThereOf u (length ts) (each_there os)
there_of [] [] u b h = (refl, refl)
there_of [] (o ∷ os) u b h = absurd h
there_of (t ∷ ts) [] u b h = absurd h
there_of (t ∷ ts) (o ∷ os) u b h =
    in_front_of u (length ts) o (each_there os) (narrower_fits t u o b.0 h.0) (there_of ts os u b.1 h.1)

list_fits : (vs : List Value) (u : CelType) (n : ℕ) → length vs ≡ n → list_all (λ v. fits v u) vs ≡ true
    → fits (value.List vs) (type.List n true u) ≡ true
list_fits vs u n e h =
    fits-levels (value.List vs) (type.List n true u) (Value-F.List vs) (CelType-F.List n true u) (out-List vs) (out-type-List n true u)
    ∙ and_from (nat_le (length vs) n) (list_all (λ v. fits v u) vs) (le-leb (length vs) n (omega (arith, e))) h

made_of : (u : CelType) (n : ℕ) (r : Result (List Value) CelError) → AreOf u n r
    → MadeRight (type.List n true u) (Some (list_of r)) (1 + n)
made_of u n (Err e) h = (refl, omega arith)
made_of u n (Ok vs) h = (list_fits vs u n h.0 h.1, omega (arith, h.0))

made_where : (u : CelType) (n : ℕ) (os : Option (List Outcome)) → ThereOf u n os
    → MadeRight (type.List n true u) (list_where os) (1 + n)
made_where u n None h = absurd h
made_where u n (Some xs) h = made_of u n (values_in xs) h

-- a list literal whose items fit their types gives what its type takes, for at most 1 and 1 for each
pub literal_made : (ts : List CelType) (os : List (Option Outcome)) (s : CelType) → items_type ts ≡ Ok s → EachFits ts os
    → MadeRight s (list_where (each_there os)) (1 + length ts)
literal_made ts os s e h = by (join_all ts) refl e
  where
    within : (u : CelType) (b : Bool) → join_all ts ≡ Some u → cond b (Ok (type.List (length ts) true u)) (Err TypeRule.TooLarge) ≡ Ok s
        → MadeRight s (list_where (each_there os)) (1 + length ts)
    within u false q k = cc
    within u true q k =
        let same : type.List (length ts) true u ≡ s = cc in
        let below = joined_behind ts type.Never u q in
        subst (λ t. MadeRight t (list_where (each_there os)) (1 + length ts)) same
        (made_where u (length ts) (each_there os) (there_of ts os u below.1 h))

    by : (o : Option CelType) → join_all ts ≡ o → plain_list (length ts) o ≡ Ok s
        → MadeRight s (list_where (each_there os)) (1 + length ts)
    by None q k = cc
    by (Some u) q k = within u (nat_lt (length ts) (2 ^ 32)) q k

-- outcomes that are there
pub all_there : (xs : List Outcome) → each_there (map Some xs) ≡ Some xs
all_there [] = refl
all_there (x ∷ xs) = ap (in_front (Some x)) (all_there xs)
