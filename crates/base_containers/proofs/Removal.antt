-- Taking away what is under a key.
use Rattle.std.proofs.Common.{◌≡◌, ℕ, false, List, [], ◌∷◌, None, ap, sym, ◌∙◌, subst, refl, inl, inr, true≢false}
use Rattle.std.specs.List.{AllByRecursion}
use Rattle.std.specs.List.Sorted.{IsStrictlySortedBy}
use Rattle.std.specs.Ordering.{nat_cmp, is_lt}
use Rattle.std.specs.declared.cmp.Ordering.TheVariants.{Less}
use Rattle.std.specs.Cmp.Lexicographic.{slice_cmp}
use Rattle.std.specs.Str.{bytes_eq}
use Rattle.std.proofs.lemmas.Bool.{cases_Bool}
use Rattle.std.proofs.lemmas.Cmp.{nat_list_cmp_total, tied_itself}
use Rattle.std.proofs.lemmas.Slice.Eq.{bytes_eq-Decides}
use Rattle.base_containers.specs.declared.text.Keyed.{Keyed}
use Rattle.base_containers.specs.Keys.{IsInKeyOrder, keys_in, value_under, without}
use Rattle.base_containers.proofs.Order.{Below}

-- what is below each of the keys that were there is below each that is left
below_without : {V : Type 0} (b k : List ℕ) (es : List (Keyed V)) → AllByRecursion (Below b) (keys_in es)
    → AllByRecursion (Below b) (keys_in (without k es))
below_without b k [] h = tt
below_without b k (e ∷ es) h = elim (cases_Bool (bytes_eq e.key k)) [
  | inl same ↦ rw same h.1
  | inr other ↦ rw other (h.0, below_without b k es h.1)
]

pub without_in_order : {V : Type 0} (k : List ℕ) (es : List (Keyed V)) → IsInKeyOrder es → IsInKeyOrder (without k es)
unfolding IsStrictlySortedBy
without_in_order k [] s = tt
without_in_order k (e ∷ es) s = elim (cases_Bool (bytes_eq e.key k)) [
  | inl same ↦ rw same s.1
  | inr other ↦ rw other (below_without e.key k es s.0, without_in_order k es s.1)
]

not_below_itself : (k : List ℕ) → Below k k → ⊥
not_below_itself k h = true≢false (ap is_lt (sym h) ∙ ap is_lt (tied_itself nat_list_cmp_total k))

apart : (k l : List ℕ) → Below k l → bytes_eq l k ≡ false
apart k l h = elim (cases_Bool (bytes_eq l k)) [
  | inl same ↦ absurd (not_below_itself k (subst (λ q. Below k q) ((bytes_eq-Decides l k).0 same) h))
  | inr other ↦ other
]

none_above : {V : Type 0} (k : List ℕ) (es : List (Keyed V)) → AllByRecursion (Below k) (keys_in es) → value_under k es ≡ None
none_above k [] h = refl
none_above k (e ∷ es) h = rw (apart k e.key h.0) (none_above k es h.1)

-- nothing is under the key any more
pub none_left : {V : Type 0} (k : List ℕ) (es : List (Keyed V)) → IsInKeyOrder es → value_under k (without k es) ≡ None
unfolding IsStrictlySortedBy
none_left k [] s = refl
none_left k (e ∷ es) s = elim (cases_Bool (bytes_eq e.key k)) [
  | inl same ↦ rw same (none_above k es (subst (λ q. AllByRecursion (Below q) (keys_in es)) ((bytes_eq-Decides e.key k).0 same) s.0))
  | inr other ↦ rw other (rw other (none_left k es s.1))
]
