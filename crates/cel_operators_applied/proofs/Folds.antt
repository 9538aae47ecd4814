-- Folds of lists whose items are each read as something.
use Rattle.std.proofs.Common.{◌≡◌, ℕ, ◌+◌, ◌<◌, ◌≤◌, List, [], ◌∷◌, length, drop, get_or, Option, Some, None, Result, Ok, refl, sym, ap}
use Rattle.std.proofs.Common.{◌∙◌, ◌-◌, ◌*◌, ◌^◌, min, arith, ◌⊎◌, inl, inr, ℤ, ◌+ℤ◌, rules}
use Rattle.std.proofs.Math.IntN.{+ℤ_assoc}
use Rattle.std.proofs.lemmas.List.{at_drop_more, at_drop_all}
use Rattle.std.specs.Option.{option_map, option_and_then}
use Rattle.cel_value.specs.declared.value.Value.{Value, out-Value, the_lemmas}
use Rattle.cel_value.specs.declared.value.Value as value
use Rattle.cel_value.specs.declared.value.Value.TheOpen.{Value-F}
use Rattle.cel_operators.specs.declared.operator.Made.{Made}
use Rattle.cel_operators.specs.Operators.{one, makes, sum_of_ints}
use Rattle.cel_operators.specs.Outcomes.{Outcome}
use Rattle.cel_operators.specs.Wants.{each_of, wholes_of, whole_at, naturals_of, natural_at, taken, taken_at}
use Rattle.cel_operators.specs.declared.operands.Want.TheVariants.{Wholes, Naturals}
use Rattle.cel_operators_applied.specs.Counted.{counted}
use Rattle.cel_value.specs.declared.cel_error.CelError.{CelError}

same_map : {A B : Type 0} (g h : List A → B) → ((l : List A) → h l ≡ g l) → (o : Option (List A)) → option_map h o ≡ option_map g o
same_map g h e None = refl
same_map g h e (Some l) = ap Some (e l)

opened : {A B : Type 0} (g : List A → B) (a : A) (o : Option (List A))
    → option_map g (option_map (λ l. a ∷ l) o) ≡ option_map (λ l. g (a ∷ l)) o
opened g a None = refl
opened g a (Some l) = refl

-- a further item that is read
pub read_more : {A B : Type 0} (f : Value → Option A) (g h : List A → B) (vs : List Value) (k : ℕ) (v : Value) (a : A)
    → k < length vs → v ≡ get_or vs k v → f v ≡ Some a → ((l : List A) → h l ≡ g (a ∷ l))
    → option_map h (each_of f (drop (k + 1) vs)) ≡ option_map g (each_of f (drop k vs))
read_more f g h vs k v a within at is e =
    let rest = drop (k + 1) vs in
    same_map (λ l. g (a ∷ l)) h e (each_of f rest) ∙ sym (opened g a (each_of f rest))
    ∙ ap (λ o. option_map g (option_and_then (λ b. option_map (λ l. b ∷ l) (each_of f rest)) o)) (sym is)
    ∙ ap (λ w. option_map g (each_of f (w ∷ rest))) at
    ∙ sym (at_drop_more (λ l. option_map g (each_of f l)) vs k v within)

-- an item that is of another kind
pub read_none : {A B : Type 0} (f : Value → Option A) (g : List A → B) (vs : List Value) (k : ℕ) (v : Value)
    → k < length vs → v ≡ get_or vs k v → f v ≡ None → option_map g (each_of f (drop k vs)) ≡ None
read_none f g vs k v within at is =
    let rest = drop (k + 1) vs in
    at_drop_more (λ l. option_map g (each_of f l)) vs k v within
    ∙ ap (λ w. option_map g (each_of f (w ∷ rest))) (sym at)
    ∙ ap (λ o. option_map g (option_and_then (λ b. option_map (λ l. b ∷ l) (each_of f rest)) o)) is

-- no further item
pub read_all : {A B : Type 0} (f : Value → Option A) (g : List A → B) (vs : List Value) (k : ℕ)
    → length vs ≤ k → option_map g (each_of f (drop k vs)) ≡ Some (g [])
read_all f g vs k h = at_drop_all (λ l. option_map g (each_of f l)) vs k h

-- as many are read as there are
pub option_known : {A : Type 0} (o : Option A) → (o ≡ None) ⊎ ((x : A) × (o ≡ Some x))
option_known None = inl refl
option_known (Some x) = inr (x, refl)

read_one : {A : Type 0} (a : A) (o : Option (List A)) (l : List A) → option_map (λ t. a ∷ t) o ≡ Some l
    → (t : List A) × ((o ≡ Some t) × (l ≡ a ∷ t))
read_one a None l e = let no : ⊥ = cc in absurd no
read_one a (Some t) l e = (t, (refl, cc))

pub as_many : {A : Type 0} (f : Value → Option A) (vs : List Value) (l : List A) → each_of f vs ≡ Some l → length l ≡ length vs
as_many f [] l e = let same : l ≡ [] = cc in ap length same
as_many f (v ∷ vs) l e = elim (option_known (f v)) [
  | inl h ↦ let no : ⊥ = (let k = ap (λ o. option_and_then (λ b. option_map (λ t. b ∷ t) (each_of f vs)) o) h in cc) in absurd no
  | inr h ↦
      let k = read_one h.0 (each_of f vs) l (sym (ap (λ o. option_and_then (λ b. option_map (λ t. b ∷ t) (each_of f vs)) o) h.1) ∙ e) in
      omega (arith, as_many f vs k.0 k.1.0, ap length k.1.1)
]

-- what a row of lists makes of them
pub made_of : {A : Type 0} (f : Value → Option A) (g : List A → Outcome) (vs : List Value)
    → makes (option_map g (each_of f vs)) (min (1 + length vs) (2 ^ 64 - 1))
    ≡ counted (one (λ l. makes (Some (g l)) (1 + length l)) (option_map Ok (each_of f vs)))
made_of f g vs = elim (option_known (each_of f vs)) [
  | inl h ↦ rw h refl
  | inr h ↦ rw (h.1, as_many f vs h.0 h.1) refl
]

-- a further integer in a sum
pub sum_more : (vs : List Value) (k : ℕ) (v : Value) (n t z : ℤ) → k < length vs → v ≡ get_or vs k v → whole_at (out-Value v) ≡ Some n
    → z ≡ t +ℤ n
    → option_map (λ ns. z +ℤ sum_of_ints ns) (wholes_of (drop (k + 1) vs)) ≡ option_map (λ ns. t +ℤ sum_of_ints ns) (wholes_of (drop k vs))
sum_more vs k v n t z within at is e =
    read_more (λ w. whole_at (out-Value w)) (λ ns. t +ℤ sum_of_ints ns) (λ ns. z +ℤ sum_of_ints ns) vs k v n within at is
    (λ l. ap (λ y. y +ℤ sum_of_ints l) e ∙ +ℤ_assoc t n (sum_of_ints l))

pub out_list : (vs : List Value) → out-Value (value.List vs) ≡ Value-F.List vs
out_list vs = search (rules, the_lemmas)

pub out_text : (bs : List ℕ) → out-Value (value.Text bs) ≡ Value-F.Text bs
out_text bs = search (rules, the_lemmas)

pub wholes_made : (g : List ℤ → Outcome) (vs : List Value)
    → makes (option_map g (wholes_of vs)) (min (1 + length vs) (2 ^ 64 - 1))
    ≡ counted (one (λ l. makes (Some (g l)) (1 + length l)) (taken Wholes (Some (Ok (value.List vs)))))
wholes_made g vs =
    made_of (λ v. whole_at (out-Value v)) g vs
    ∙ ap (λ p. counted (one (λ l. makes (Some (g l)) (1 + length l)) (taken_at Wholes (value.List vs) p))) (sym (out_list vs))

pub naturals_made : (g : List ℕ → Outcome) (vs : List Value)
    → makes (option_map g (naturals_of vs)) (min (1 + length vs) (2 ^ 64 - 1))
    ≡ counted (one (λ l. makes (Some (g l)) (1 + length l)) (taken Naturals (Some (Ok (value.List vs)))))
naturals_made g vs =
    made_of (λ v. natural_at (out-Value v)) g vs
    ∙ ap (λ p. counted (one (λ l. makes (Some (g l)) (1 + length l)) (taken_at Naturals (value.List vs) p))) (sym (out_list vs))
