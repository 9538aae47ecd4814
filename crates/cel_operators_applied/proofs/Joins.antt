-- What texts in a list weigh, and what their row makes of them.
use Rattle.std.proofs.Common.{◌≡◌, ℕ, ◌+◌, ◌-◌, ◌*◌, ◌^◌, min, List, [], ◌∷◌, length, Option, Some, None, Ok, refl, sym, ap, ◌∙◌, arith}
use Rattle.std.proofs.Common.{inl, inr}
use Rattle.std.proofs.lemmas.List.Sums.{sum_by-cons}
use Rattle.std.specs.List.{join_by, sum_by}
use Rattle.std.specs.Option.{option_map, option_and_then}
use Rattle.cel_value.specs.declared.value.Value as value
use Rattle.cel_value.specs.declared.value.Value.{Value, out-Value}
use Rattle.cel_value.specs.declared.value.Value.TheFolds.{fold_out-Value, map-Value}
use Rattle.cel_value.specs.declared.value.Value.TheOpen.{Value-F}
use Rattle.cel_value.specs.Value.{weight_of, weight_step, items_weight_of, text_weight_of}
use Rattle.cel_operators.specs.Joined.{text_at, text_of, texts_of, joined}
use Rattle.cel_operators.specs.Operators.{two, makes, answers_text, tenths_in}
use Rattle.cel_operators_applied.specs.Counted.{counted}
use Rattle.cel_operators_applied.proofs.Folds.{option_known, out_list, out_text}
use Rattle.cel_operators.specs.Wants.{taken, taken_at}
use Rattle.cel_operators.specs.declared.operands.Want.TheVariants.{Texts, Characters}

weight_at_text : (p : Value-F Value) (text : List ℕ) → text_at p ≡ Some text
    → weight_step (map-Value Value ℕ weight_of p) ≡ text_weight_of text
weight_at_text (Value-F.Text bs) text e = let same : bs ≡ text = cc in ap text_weight_of same
weight_at_text Value-F.Null text e = absurd (cc)
weight_at_text (Value-F.Bool b) text e = absurd (cc)
weight_at_text (Value-F.Int n) text e = absurd (cc)
weight_at_text (Value-F.Uint n) text e = absurd (cc)
weight_at_text (Value-F.Timestamp n) text e = absurd (cc)
weight_at_text (Value-F.Duration n) text e = absurd (cc)
weight_at_text (Value-F.List vs) text e = absurd (cc)
weight_at_text (Value-F.Map es) text e = absurd (cc)
weight_at_text (Value-F.Object es) text e = absurd (cc)
weight_at_text Value-F.Opaque text e = absurd (cc)

weight_of_text : (v : Value) (text : List ℕ) → text_of v ≡ Some text → weight_of v ≡ text_weight_of text
weight_of_text v text e = fold_out-Value ℕ weight_step v ∙ weight_at_text (out-Value v) text e

read_one : (a : List ℕ) (o : Option (List (List ℕ))) (l : List (List ℕ)) → option_map (λ t. a ∷ t) o ≡ Some l
    → (t : List (List ℕ)) × ((o ≡ Some t) × (l ≡ a ∷ t))
read_one a None l e = let no : ⊥ = cc in absurd no
read_one a (Some t) l e = (t, (refl, cc))

pub texts_weigh : (vs : List Value) (ts : List (List ℕ)) → texts_of vs ≡ Some ts
    → (sum_by text_weight_of ts ≡ items_weight_of vs) × (length ts ≡ length vs)
texts_weigh [] ts e = let same : ts ≡ [] = cc in (ap (sum_by text_weight_of) same, ap length same)
texts_weigh (v ∷ vs) ts e = elim (option_known (text_of v)) [
  | inl h ↦ let no : ⊥ = (let k = ap (λ o. option_and_then (λ b. option_map (λ t. b ∷ t) (texts_of vs)) o) h in cc) in absurd no
  | inr h ↦
      let k = read_one h.0 (texts_of vs) ts (sym (ap (λ o. option_and_then (λ b. option_map (λ t. b ∷ t) (texts_of vs)) o) h.1) ∙ e) in
      let r = texts_weigh vs k.0 k.1.0 in
      let w = weight_of_text v h.0 h.1 in (
        omega (arith, ap (sum_by text_weight_of) k.1.1, sum_by-cons text_weight_of h.0 k.0, sum_by-cons weight_of v vs, r.0, w),
        omega (arith, ap length k.1.1, r.1),
      )
]

pub join_made : (vs : List Value) (t : List ℕ)
    → makes (option_map (λ b. Ok (value.Text b)) (joined t vs)) (min (2 + items_weight_of vs + length vs * (1 + tenths_in t)) (2 ^ 64 - 1))
    ≡ counted (two (λ ts u. makes (answers_text (join_by (λ s. s) u ts))
    (1 + (1 + sum_by text_weight_of ts) + length ts * (1 + tenths_in u)))
    (option_map Ok (texts_of vs)) (Some (Ok t)))
join_made vs t = elim (option_known (texts_of vs)) [
  | inl h ↦ rw h refl
  | inr h ↦
      let r = texts_weigh vs h.0 h.1 in
      rw (h.1, r.0, r.1) (ap (makes (Some (Ok (value.Text (join_by (λ s. s) t h.0))))) (omega arith))
]

pub join_at : (vs : List Value) (t : List ℕ)
    → makes (option_map (λ b. Ok (value.Text b)) (joined t vs)) (min (2 + items_weight_of vs + length vs * (1 + tenths_in t)) (2 ^ 64 - 1))
    ≡ counted (two (λ ts u. makes (answers_text (join_by (λ s. s) u ts))
    (1 + (1 + sum_by text_weight_of ts) + length ts * (1 + tenths_in u)))
    (taken Texts (Some (Ok (value.List vs)))) (taken Characters (Some (Ok (value.Text t)))))
join_at vs t =
    join_made vs t
    ∙ ap (λ p. counted (two (λ ts u. makes (answers_text (join_by (λ s. s) u ts))
    (1 + (1 + sum_by text_weight_of ts) + length ts * (1 + tenths_in u)))
    (taken_at Texts (value.List vs) p) (Some (Ok t)))) (sym (out_list vs))
    ∙ ap (λ p. counted (two (λ ts u. makes (answers_text (join_by (λ s. s) u ts))
    (1 + (1 + sum_by text_weight_of ts) + length ts * (1 + tenths_in u)))
    (taken Texts (Some (Ok (value.List vs)))) (taken_at Characters (value.Text t) p))) (sym (out_text t))
