-- The order of keys, and what one more entry does to it.
use Rattle.std.proofs.Math.Seq.{take-length}
use Rattle.std.proofs.Common.{Ordering, ◌-◌, take, ◌<◌, ◌≤◌, length, get_or, drop, IsTrue, arith}
use Rattle.std.proofs.Common.{◌≡◌, ℕ, zero, suc, Bool, true, false, cond, List, []}
use Rattle.std.proofs.Common.{◌∷◌, Some, None, ap, sym, ◌∙◌, refl, inl, inr, true≢false}
use Rattle.std.specs.Prelude.{◌↔◌, is_some}
use Rattle.std.specs.List.{AllByRecursion, insert}
use Rattle.std.specs.List.Sorted.{IsStrictlySortedBy}
use Rattle.std.specs.Ordering.{nat_cmp, is_lt, is_ge, is_eq, ordering_reverse}
use Rattle.std.specs.declared.cmp.Ordering.TheVariants.{Less, Equal, Greater}
use Rattle.std.specs.Cmp.Lexicographic.{slice_cmp}
use Rattle.std.specs.Str.{bytes_eq}
use Rattle.std.proofs.lemmas.Bool.{cases_Bool}
use Rattle.std.proofs.lemmas.Cmp.{nat_list_cmp_total}
use Rattle.std.proofs.lemmas.Map.Text.{is_eq-slice_cmp}
use Rattle.base_containers.specs.declared.text.Keyed.{Keyed}
use Rattle.base_containers.specs.Keys.{IsInKeyOrder, keys_in, value_under, place_for, with_entry, rises_from}

abbrev pub Below : List ℕ → List ℕ → Type 0
Below a b = slice_cmp nat_cmp a b ≡ Less

pub all_below : (a b : List ℕ) (ks : List (List ℕ)) → Below a b → AllByRecursion (Below b) ks → AllByRecursion (Below a) ks
all_below a b [] h k = tt
all_below a b (x ∷ ks) h k = (nat_list_cmp_total.trans a b x h k.0, all_below a b ks h k.1)

-- two entries are in order with the rest if the first is below the second
pub ordered_step : {V : Type 0} (a b : Keyed V) (es : List (Keyed V))
    → IsInKeyOrder (a ∷ b ∷ es) ↔ (Below a.key b.key × IsInKeyOrder (b ∷ es))
unfolding IsStrictlySortedBy
ordered_step a b es = (λ h. (h.0.0, h.1), λ p. ((p.0, all_below a.key b.key (keys_in es) p.0 p.1.0), p.1))

pub lesser : (o : Ordering) → is_lt o ≡ true → o ≡ Less
lesser Less h = refl
lesser Equal h = absurd (true≢false (sym h))
lesser Greater h = absurd (true≢false (sym h))

-- what is neither below nor equal is above
above : (o p : Ordering) → p ≡ ordering_reverse o → is_lt o ≡ false → is_eq p ≡ false → p ≡ Less
above Less p e h k = absurd (true≢false h)
above Equal p e h k = absurd (true≢false (sym (ap is_eq e) ∙ k))
above Greater p e h k = e

absent_head : {V : Type 0} (b : Bool) (v : V) (o : _) → cond b (Some v) o ≡ None → b ≡ false
absent_head true v o h = absurd (true≢false (ap is_some h))
absent_head false v o h = refl

absent_tail : {V : Type 0} (b : Bool) (v : V) (o : _) → cond b (Some v) o ≡ None → o ≡ None
absent_tail true v o h = absurd (true≢false (ap is_some h))
absent_tail false v o h = h

all_with : {V : Type 0} (P : List ℕ → Type 0) (x : Keyed V) (n : ℕ) (es : List (Keyed V)) → P x.key
    → AllByRecursion P (keys_in es) → AllByRecursion P (keys_in (insert es n x))
all_with P x zero es p h = (p, h)
all_with P x (suc n) [] p h = (p, tt)
all_with P x (suc n) (e ∷ es) p h = (h.0, all_with P x n es p h.1)

pub with_entry_ordered : {V : Type 0} (k : List ℕ) (v : V) (es : List (Keyed V)) → IsInKeyOrder es → value_under k es ≡ None
    → IsInKeyOrder (with_entry k v es)
unfolding IsStrictlySortedBy
with_entry_ordered k v [] s n = (tt, tt)
with_entry_ordered k v (e ∷ es) s n = elim (cases_Bool (is_lt (slice_cmp nat_cmp k e.key))) [
  | inl lt ↦
      let below = lesser (slice_cmp nat_cmp k e.key) lt in
      rw lt ((below, all_below k e.key (keys_in es) below s.0), s)
  | inr ge ↦
      let apart = is_eq-slice_cmp e.key k ∙ absent_head (bytes_eq e.key k) e.value (value_under k es) n in
      let below = above (slice_cmp nat_cmp k e.key) (slice_cmp nat_cmp e.key k) (nat_list_cmp_total.antisymm e.key k) ge apart in
      rw ge (
        all_with (Below e.key) (record { key = k; value = v }) (place_for k es) es below s.0,
        with_entry_ordered k v es s.1
            (absent_tail (bytes_eq e.key k) e.value (value_under k es) n),
      )
]

not_above : (o : Ordering) → is_ge o ≡ false → o ≡ Less
not_above Less h = refl
not_above Equal h = absurd (true≢false h)
not_above Greater h = absurd (true≢false h)

one_ordered : {V : Type 0} (e : Keyed V) → IsInKeyOrder (e ∷ [])
unfolding IsStrictlySortedBy
one_ordered e = (tt, tt)

none_ordered : (V : Type 0) → IsInKeyOrder {V = V} []
unfolding IsStrictlySortedBy
none_ordered V = tt

-- entries are in order if their keys rise from the first
pub rises_from-decides : {V : Type 0} (e : Keyed V) (es : List (Keyed V)) → (rises_from e.key es ≡ true) ↔ IsInKeyOrder (e ∷ es)
rises_from-decides e [] = (λ h. one_ordered e, λ h. refl)
rises_from-decides e (x ∷ es) = elim (cases_Bool (is_ge (slice_cmp nat_cmp e.key x.key))) [
  | inl ge ↦ rw ge (λ h. absurd (true≢false (sym h)), λ h. absurd (true≢false (sym ge ∙ ap is_ge ((ordered_step e x es).0 h).0)))
  | inr lt ↦
      let rest = rises_from-decides x es in
      let below = not_above (slice_cmp nat_cmp e.key x.key) lt in
      rw lt (λ h. (ordered_step e x es).1 (below, rest.0 h), λ h. rest.1 ((ordered_step e x es).0 h).1)
]

pub decides_empty : {V : Type 0} (es : List (Keyed V)) → length es < 1 → IsTrue true ↔ IsInKeyOrder es
decides_empty {V} [] h = (λ k. none_ordered V, λ k. refl)
decides_empty (e ∷ es) h = absurd (omega (arith, h))

-- by the first entry, and the rest as a slice's pattern gives it
pub decides_first : {V : Type 0} (es : List (Keyed V)) (e : Keyed V) (r : Bool) → 1 ≤ length es → e ≡ get_or es 0 e
    → r ≡ rises_from e.key (take (length es - 1) (drop 1 es)) → IsTrue r ↔ IsInKeyOrder es
decides_first [] e r h k m = absurd (omega (arith, h))
decides_first (x ∷ es) e r h k m =
    let whole : take (length (x ∷ es) - 1) es ≡ es = ap (λ n. take n es) (omega arith) ∙ take-length es in
    let d = rises_from-decides x es in
    let first : r ≡ rises_from x.key es = m ∙ ap (rises_from e.key) whole ∙ ap (λ y. rises_from y.key es) k in
    (λ t. d.0 (sym first ∙ t), λ t. first ∙ d.1 t)
