-- Texts in a row: what is still to come after those that are there, and how long the whole is.
use Rattle.std.proofs.Common.{◌≡◌, ◌+◌, ◌-◌, ◌*◌, ◌<◌, ◌≤◌, ℕ, List, [], ◌∷◌, ◌++◌, length, take, drop, get_or, take_all, ap, sym, ◌∙◌}
use Rattle.std.proofs.Common.{refl, arith, append_assoc, append-nil, inl, inr, suc-mul, ◌⊎◌}
use Rattle.std.proofs.Common.{Option, Some, None}
use Rattle.std.proofs.lemmas.List.{at_drop_more, at_drop_all}
use Rattle.std.proofs.lemmas.List.Sums.{sum_by-cons}
use Rattle.std.specs.List.{flat_map, join_by, sum_by}
use Rattle.std.specs.Option.{option_map}
use Rattle.cel_value.specs.declared.value.Value.{Value, out-Value}
use Rattle.cel_value.specs.declared.value.Value.TheOpen.{Value-F}
use Rattle.cel_value.specs.Value.{code_points, length_of, length_at}
use Rattle.cel_value.proofs.CodePoints.{code_points-append}
use Rattle.cel_operators.specs.Joined.{text_at, text_of, texts_of, joined}

-- the text that is there, and the others after it, each after a separator
abbrev pub more : List ℕ → List ℕ → List Value → Option (List ℕ)
more separator text vs = option_map (λ ts. text ++ flat_map (λ t. separator ++ t) ts) (texts_of vs)

pub joined_first : (separator text : List ℕ) (v : Value) (vs : List Value) → text_of v ≡ Some text
    → joined separator (v ∷ vs) ≡ more separator text vs
joined_first separator text v vs e = rw e (by (texts_of vs))
  where
    by : (o : Option (List (List ℕ))) → option_map (λ ts. join_by (λ t. t) separator ts) (option_map (λ ts. text ∷ ts) o)
        ≡ option_map (λ ts. text ++ flat_map (λ t. separator ++ t) ts) o
    by None = refl
    by (Some ts) = refl

pub joined_no_text : (separator : List ℕ) (v : Value) (vs : List Value) → text_of v ≡ None → joined separator (v ∷ vs) ≡ None
joined_no_text separator v vs e = rw e refl

pub more_next : (separator made text : List ℕ) (v : Value) (vs : List Value) → text_of v ≡ Some text
    → more separator made (v ∷ vs) ≡ more separator ((made ++ separator) ++ text) vs
more_next separator made text v vs e = rw e (by (texts_of vs))
  where
    by : (o : Option (List (List ℕ))) → option_map (λ ts. made ++ flat_map (λ t. separator ++ t) ts) (option_map (λ ts. text ∷ ts) o)
        ≡ option_map (λ ts. ((made ++ separator) ++ text) ++ flat_map (λ t. separator ++ t) ts) o
    by None = refl
    by (Some ts) = ap Some (simp append_assoc)

pub more_no_text : (separator made : List ℕ) (v : Value) (vs : List Value) → text_of v ≡ None → more separator made (v ∷ vs) ≡ None
more_no_text separator made v vs e = rw e refl

pub more_none : (separator made : List ℕ) → more separator made [] ≡ Some made
more_none separator made = ap Some (append-nil made)

-- one more text, at a place of those to come
pub more_step : (separator made next text : List ℕ) (vs : List Value) (i : ℕ) (d : Value) → i < length vs
    → text_of (get_or vs i d) ≡ Some text
    → next ≡ (made ++ separator) ++ text → more separator next (drop (i + 1) vs) ≡ more separator made (drop i vs)
more_step separator made next text vs i d within t e =
    ap (λ l. more separator l (drop (i + 1) vs)) e ∙ sym (more_next separator made text (get_or vs i d) (drop (i + 1) vs) t)
    ∙ sym (at_drop_more (more separator made) vs i d within)

-- none are left to come
pub more_end : (separator made : List ℕ) (vs : List Value) (i : ℕ) → length vs ≤ i → more separator made (drop i vs) ≡ Some made
more_end separator made vs i past = at_drop_all (more separator made) vs i past ∙ more_none separator made

-- the first text, and those after it
pub joined_opened : (separator text : List ℕ) (vs : List Value) (d : Value) → 1 ≤ length vs → text_of (get_or vs 0 d) ≡ Some text
    → joined separator vs ≡ more separator text (take (length vs - 1) (drop 1 vs))
joined_opened separator text [] d some t = absurd (omega arith)
joined_opened separator text (v ∷ vs) d some t =
    let one_less : length (v ∷ vs) - 1 ≡ length vs = omega arith in
    joined_first separator text v vs t ∙ ap (more separator text)
    (sym (ap (λ n. take n vs) one_less ∙ take_all (length vs) vs (omega arith)))

-- the length of a value that is a text
length_at_text : (p : Value-F Value) (text : List ℕ) → text_at p ≡ Some text → length_at p ≡ code_points text
length_at_text (Value-F.Text bs) text e = let same : bs ≡ text = cc in ap code_points same
length_at_text Value-F.Null text e = absurd (cc)
length_at_text (Value-F.Bool b) text e = absurd (cc)
length_at_text (Value-F.Int n) text e = absurd (cc)
length_at_text (Value-F.Uint n) text e = absurd (cc)
length_at_text (Value-F.Timestamp n) text e = absurd (cc)
length_at_text (Value-F.Duration n) text e = absurd (cc)
length_at_text (Value-F.List vs) text e = absurd (cc)
length_at_text (Value-F.Map es) text e = absurd (cc)
length_at_text (Value-F.Object es) text e = absurd (cc)
length_at_text Value-F.Opaque text e = absurd (cc)

option_cases : {A : Type 0} (o : Option A) → (o ≡ None) ⊎ ((x : A) × (o ≡ Some x))
option_cases None = inl refl
option_cases (Some x) = inr (x, refl)

more_length : (separator made : List ℕ) (vs : List Value) (text : List ℕ) → more separator made vs ≡ Some text
    → code_points text ≡ code_points made + (sum_by length_of vs + length vs * code_points separator)
more_length separator made [] text e =
    let same : text ≡ made = (let f = more_none separator made in cc) in
    rw same (omega arith)
more_length separator made (v ∷ vs) text e = elim (option_cases (text_of v)) [
  | inl h ↦ absurd (let f = more_no_text separator made v vs h in cc)
  | inr h ↦
      let rest = more_length separator ((made ++ separator) ++ h.0) vs text (sym (more_next separator made h.0 v vs h.1) ∙ e) in
      let long : length_of v ≡ code_points h.0 = length_at_text (out-Value v) h.0 h.1 in
      omega (
        arith,
        rest,
        long,
        sum_by-cons length_of v vs,
        code_points-append (made ++ separator) h.0,
        code_points-append made separator,
        suc-mul (length vs) (code_points separator),
      )
]

pub joined_length : (separator : List ℕ) (vs : List Value) (text : List ℕ) → joined separator vs ≡ Some text
    → code_points text ≡ sum_by length_of vs + (length vs - 1) * code_points separator
joined_length separator [] text e = let same : text ≡ [] = cc in rw same (omega arith)
joined_length separator (v ∷ vs) text e = elim (option_cases (text_of v)) [
  | inl h ↦ absurd (let f = joined_no_text separator v vs h in cc)
  | inr h ↦
      let rest = more_length separator h.0 vs text (sym (joined_first separator h.0 v vs h.1) ∙ e) in
      let long : length_of v ≡ code_points h.0 = length_at_text (out-Value v) h.0 h.1 in
      let behind : length (v ∷ vs) - 1 ≡ length vs = omega arith in
      omega (arith, rest, long, sum_by-cons length_of v vs, ap (λ n. n * code_points separator) behind)
]
