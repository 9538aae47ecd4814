-- Entries by key, in step with keys in ascending order: what is before a key is not looked for again.
use Rattle.std.proofs.Common.{◌≡◌, ℕ, zero, suc, ◌+◌, Bool, true, false, cond, List, []}
use Rattle.std.proofs.Common.{◌∷◌, drop, None, Ordering, refl, ap, sym, ◌∙◌, inl, inr, true≢false}
use Rattle.std.proofs.Math.Numerals.{one-add}
use Rattle.std.specs.List.{AllByRecursion}
use Rattle.std.specs.List.Sorted.{IsStrictlySortedBy}
use Rattle.std.specs.Ordering.{nat_cmp, is_lt, is_eq, ordering_reverse}
use Rattle.std.specs.declared.cmp.Ordering.TheVariants.{Less, Equal, Greater}
use Rattle.std.specs.Cmp.Lexicographic.{slice_cmp}
use Rattle.std.specs.Str.{bytes_eq}
use Rattle.std.proofs.lemmas.Bool.{cases_Bool}
use Rattle.std.proofs.lemmas.Cmp.{nat_list_cmp_total}
use Rattle.std.proofs.lemmas.List.{drop-drop}
use Rattle.std.proofs.lemmas.Map.Text.{is_eq-slice_cmp}
use Rattle.base_containers.specs.declared.text.Keyed.{Keyed}
use Rattle.base_containers.specs.Keys.{IsInKeyOrder, keys_in, value_under}
use Rattle.base_containers.proofs.Order.{Below, all_below}
use Rattle.vap_schema.specs.InStep.{is_before, count_before, first_under}

-- the entries from the first one on that is not before a key
abbrev pub rest_from : {V : Type 0} → List ℕ → List (Keyed V) → List (Keyed V)
rest_from k [] = []
rest_from k (e ∷ es) = cond (is_before k e) (rest_from k es) (e ∷ es)

pub rest_is : {V : Type 0} (k : List ℕ) (es : List (Keyed V)) → drop (count_before k es) es ≡ rest_from k es
rest_is k [] = refl
rest_is k (e ∷ es) = elim (cases_Bool (is_before k e)) [
  | inl before ↦ rw (before, one-add) (rest_is k es)
  | inr other ↦ rw other refl
]

-- ---- keys that are before others

lesser : (o : Ordering) → is_lt o ≡ true → o ≡ Less
lesser Less h = refl
lesser Equal h = absurd (true≢false (sym h))
lesser Greater h = absurd (true≢false (sym h))

-- what is neither below nor equal is above
above : (o p : Ordering) → p ≡ ordering_reverse o → is_lt o ≡ false → is_eq o ≡ false → p ≡ Less
above Less p e h k = absurd (true≢false h)
above Equal p e h k = absurd (true≢false k)
above Greater p e h k = e

above_key : (a b : List ℕ) → is_lt (slice_cmp nat_cmp a b) ≡ false → bytes_eq a b ≡ false → Below b a
above_key a b h k = above (slice_cmp nat_cmp a b) (slice_cmp nat_cmp b a) (nat_list_cmp_total.antisymm b a) h (is_eq-slice_cmp a b ∙ k)

apart : (a b : List ℕ) → Below a b → bytes_eq a b ≡ false
apart a b h = sym (is_eq-slice_cmp a b) ∙ ap is_eq h

apart_from : (a b : List ℕ) → Below b a → bytes_eq a b ≡ false
apart_from a b h = sym (is_eq-slice_cmp a b) ∙ ap is_eq (nat_list_cmp_total.antisymm a b ∙ ap ordering_reverse h)

none_above : {V : Type 0} (k : List ℕ) (es : List (Keyed V)) → AllByRecursion (Below k) (keys_in es) → value_under k es ≡ None
none_above k [] h = refl
none_above k (e ∷ es) h = rw (apart_from e.key k h.0) (none_above k es h.1)

first_or_none : {V : Type 0} (k : List ℕ) (e : Keyed V) (es : List (Keyed V)) → is_before k e ≡ false
    → AllByRecursion (Below e.key) (keys_in es)
    → (b : Bool) → bytes_eq e.key k ≡ b → value_under k (e ∷ es) ≡ first_under k (e ∷ es)
first_or_none k e es other s true same = rw same refl
first_or_none k e es other s false same =
    rw same (none_above k es (all_below k e.key (keys_in es) (above_key e.key k other same) s))

-- what is under a key is found at the first entry that is not before it
pub found_first : {V : Type 0} (k : List ℕ) (es : List (Keyed V)) → IsInKeyOrder es
    → value_under k es ≡ first_under k (rest_from k es)
unfolding IsStrictlySortedBy
found_first k [] s = refl
found_first k (e ∷ es) s = elim (cases_Bool (is_before k e)) [
  | inl before ↦ rw before (rw (apart e.key k (lesser (slice_cmp nat_cmp e.key k) before)) (found_first k es s.1))
  | inr other ↦ rw other (first_or_none k e es other s.0 (bytes_eq e.key k) refl)
]

-- what is under a greater key is in the rest
pub found_behind : {V : Type 0} (k g : List ℕ) (es : List (Keyed V)) → Below k g → value_under g (rest_from k es) ≡ value_under g es
found_behind k g [] b = refl
found_behind k g (e ∷ es) b = elim (cases_Bool (is_before k e)) [
  | inl before ↦
      let below = nat_list_cmp_total.trans e.key k g (lesser (slice_cmp nat_cmp e.key k) before) b in
      rw before (rw (apart e.key g below) (found_behind k g es b))
  | inr other ↦ rw other refl
]

pub rest_in_order : {V : Type 0} (k : List ℕ) (es : List (Keyed V)) → IsInKeyOrder es → IsInKeyOrder (rest_from k es)
unfolding IsStrictlySortedBy
rest_in_order k [] s = s
rest_in_order k (e ∷ es) s = elim (cases_Bool (is_before k e)) [
  | inl before ↦ rw before (rest_in_order k es s.1)
  | inr other ↦ rw other s
]

pub order_behind : {V : Type 0} (n : ℕ) (es : List (Keyed V)) → IsInKeyOrder es → IsInKeyOrder (drop n es)
unfolding IsStrictlySortedBy
order_behind zero es s = s
order_behind (suc n) [] s = s
order_behind (suc n) (e ∷ es) s = order_behind n es s.1

-- the place that was found begins the rest
pub moved : {V : Type 0} (k : List ℕ) (es : List (Keyed V)) (from place : ℕ) → place ≡ from + count_before k (drop from es)
    → drop place es ≡ rest_from k (drop from es)
moved k es from place is = ap (λ n. drop n es) is ∙ sym (drop-drop (count_before k (drop from es)) from es) ∙ rest_is k (drop from es)
