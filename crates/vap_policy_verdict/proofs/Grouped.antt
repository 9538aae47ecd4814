-- Annotations that are put one after the other, each under a new key with all its values.
use Rattle.std.proofs.Common.{◌≡◌, ◌<◌, ◌+◌, ℕ, suc, Bool, true, false, not, cond, List, [], ◌∷◌, ◌++◌, length, drop, get_or, map, filter}
use Rattle.std.proofs.Common.{Option, Some, None, refl, sym, ap, ◌∙◌, subst, true≢false, is_some, bytes_eq, add-one, drop-cons, append-nil}
use Rattle.std.proofs.Common.{Bor}
use Rattle.std.specs.Option.{option_copied, option_or}
use Rattle.std.specs.List.Sorted.{IsStrictlySortedBy}
use Rattle.base_containers.specs.Keys.{IsInKeyOrder, keys_in, value_under, with_entry}
use Rattle.base_containers.specs.declared.text.Keyed.{Keyed}
use Rattle.base_containers.proofs.Order.{with_entry_ordered}
use Rattle.vap_read_objects.proofs.Names.{same_text}
use Rattle.vap_policy_verdict.specs.DecisionAnnotations.{AreByKey, each_once, grouped, joined_at}
use Rattle.vap_policy_verdict.proofs.ByKey.{Agree, value_in_both, value_with}

abbrev Entry : Type 0
Entry = Keyed (List ℕ)

-- the keys of these entries, each with its values of all
abbrev pub joined_each : List Entry → List Entry → List Entry
joined_each all es = map (joined_at all) (keys_in es)

-- ---- one step

some_first : (b : Bool) (v : List ℕ) (o p : Option (List ℕ)) → (b ≡ true → is_some o ≡ true)
    → option_or o p ≡ option_or o (cond b (Some v) p)
some_first true v None p there = absurd (true≢false (sym (there refl)))
some_first true v (Some w) p there = refl
some_first false v o p there = refl

-- an entry whose key has a value already is not seen
seen : (m rest : List Entry) (e : Entry) → is_some (value_under e.key m) ≡ true → Agree (m ++ rest) (m ++ e ∷ rest)
seen m rest e there k =
    value_in_both k m rest
    ∙ some_first (bytes_eq e.key k) e.value (value_under k m) (value_under k rest)
    (λ h. subst (λ q. is_some (value_under q m) ≡ true) (same_text e.key k h) there)
    ∙ sym (value_in_both k m (e ∷ rest))

none_first : (b : Bool) (v : List ℕ) (o p : Option (List ℕ)) → (b ≡ true → o ≡ None)
    → option_or (cond b (Some v) o) p ≡ option_or o (cond b (Some v) p)
none_first true v o p absent = sym (ap (λ o. option_or o (Some v)) (absent refl))
none_first false v o p absent = refl

-- one whose key is new is put
put : (m rest : List Entry) (e : Entry) → value_under e.key m ≡ None
    → Agree (with_entry e.key e.value m ++ rest) (m ++ e ∷ rest)
put m rest e absent k =
    value_in_both k (with_entry e.key e.value m) rest
    ∙ ap (λ o. option_or o (value_under k rest)) (value_with k e.key e.value m absent)
    ∙ none_first (bytes_eq e.key k) e.value (value_under k m) (value_under k rest)
    (λ h. subst (λ q. value_under q m ≡ None) (same_text e.key k h) absent)
    ∙ sym (value_in_both k m (e ∷ rest))

-- ---- the loop

-- what is there is in order, and with the rest it has the values of all that was there at first with all keys
pub record IsGrouping (first all rest made : List Entry) : Type 0 where
  pub order : IsInKeyOrder made
  pub values : Agree (made ++ joined_each all rest) (first ++ joined_each all all)

next : (all : List Entry) (i : ℕ) (e : Entry) → i < length all → e ≡ get_or all i e → drop i all ≡ e ∷ drop (i + 1) all
next all i e lt is =
    drop-cons all i e lt ∙ ap (λ (y : Entry). y ∷ drop (suc i) all) (sym is) ∙ ap (λ (k : ℕ). e ∷ drop k all) (sym (add-one i))

pub known : (first all made : List Entry) (i : ℕ) (e : Entry) → i < length all → e ≡ get_or all i e
    → is_some (value_under e.key made) ≡ true
    → IsGrouping first all (drop i all) made → IsGrouping first all (drop (i + 1) all) made
known first all made i e lt is there before =
    record {
      order = before.order;
      values = λ k.
          seen made (joined_each all (drop (i + 1) all)) (joined_at all e.key) there k
          ∙ ap (λ es. value_under k (made ++ joined_each all es)) (sym (next all i e lt is))
          ∙ before.values k;
    }

pub added : (first all made new : List Entry) (i : ℕ) (e : Entry) → i < length all → e ≡ get_or all i e
    → value_under e.key made ≡ None → new ≡ with_entry e.key (joined_at all e.key).value made
    → IsGrouping first all (drop i all) made → IsGrouping first all (drop (i + 1) all) new
added first all made new i e lt is absent same before =
    record {
      order = subst (λ es. IsInKeyOrder es) (sym same) (with_entry_ordered e.key (joined_at all e.key).value made before.order absent);
      values = λ k.
          ap (λ es. value_under k (es ++ joined_each all (drop (i + 1) all))) same
          ∙ put made (joined_each all (drop (i + 1) all)) (joined_at all e.key) absent k
          ∙ ap (λ es. value_under k (made ++ joined_each all es)) (sym (next all i e lt is))
          ∙ before.values k;
    }

-- a value that is found is there, and one that is not is not
pub found_there : {V : Type 0} (o : Option (Bor V)) (p : Option V) (b : Bool) → is_some o ≡ not b → b ≡ false
    → option_copied o ≡ p → is_some p ≡ true
found_there None p b is h same = absurd (true≢false (sym (is ∙ ap not h)))
found_there (Some v) p b is h same = ap is_some (sym same)

pub found_none : {V : Type 0} (o : Option (Bor V)) (p : Option V) (b : Bool) → is_some o ≡ not b → b ≡ true
    → option_copied o ≡ p → p ≡ None
found_none None p b is h same = sym same
found_none (Some v) p b is h same = absurd (true≢false (is ∙ ap not h))

-- ---- the end

-- a key that is left out does not change what is under the others
left_out : (all : List Entry) (t k : List ℕ) (ts : List (List ℕ)) → bytes_eq t k ≡ false
    → value_under k (map (joined_at all) (filter (λ u. not (bytes_eq u t)) ts)) ≡ value_under k (map (joined_at all) ts)
left_out all t k [] other = refl
left_out all t k (u ∷ ts) other = at (bytes_eq u t) refl (left_out all t k ts other)
  where
    others : List (List ℕ)
    others = filter (λ u. not (bytes_eq u t)) ts

    at : (b : Bool) → bytes_eq u t ≡ b
        → value_under k (map (joined_at all) others) ≡ value_under k (map (joined_at all) ts)
        → value_under k (map (joined_at all) (cond (not b) (u ∷ others) others))
        ≡ cond (bytes_eq u k) (Some (joined_at all u).value) (value_under k (map (joined_at all) ts))
    at true same rest =
        let apart : bytes_eq u k ≡ false = subst (λ q. bytes_eq q k ≡ false) (sym (same_text u t same)) other in
        rest ∙ sym (ap (λ b. cond b (Some (joined_at all u).value) (value_under k (map (joined_at all) ts))) apart)
    at false same rest = ap (cond (bytes_eq u k) (Some (joined_at all u).value)) rest

-- keys that are given once have the values of all
once : (all : List Entry) (k : List ℕ) (ts : List (List ℕ))
    → value_under k (map (joined_at all) (each_once ts)) ≡ value_under k (map (joined_at all) ts)
once all k [] = refl
once all k (t ∷ ts) = at (bytes_eq t k) refl (once all k ts)
  where
    at : (b : Bool) → bytes_eq t k ≡ b
        → value_under k (map (joined_at all) (each_once ts)) ≡ value_under k (map (joined_at all) ts)
        → cond b (Some (joined_at all t).value)
        (value_under k (map (joined_at all) (filter (λ u. not (bytes_eq u t)) (each_once ts))))
        ≡ cond b (Some (joined_at all t).value) (value_under k (map (joined_at all) ts))
    at true same rest = refl
    at false other rest = left_out all t k (each_once ts) other ∙ rest

pub done : (first all rest made : List Entry) → rest ≡ [] → IsGrouping first all rest made → AreByKey (first ++ grouped all) made
done first all rest made none is =
    record {
      order = is.order;
      values = λ k.
          ap (value_under k) (sym (append-nil made))
          ∙ ap (λ es. value_under k (made ++ joined_each all es)) (sym none)
          ∙ is.values k
          ∙ value_in_both k first (joined_each all all)
          ∙ ap (option_or (value_under k first)) (sym (once all k (keys_in all)))
          ∙ sym (value_in_both k first (grouped all));
    }

pub begun : (first all : List Entry) → IsInKeyOrder first → IsGrouping first all all first
begun first all order = record { order = order; values = λ k. refl }

-- one entry is in order, and so is none
pub one_ordered : (b : Bool) (e : Entry) → IsInKeyOrder (cond b (e ∷ []) [])
unfolding IsStrictlySortedBy
one_ordered true e = (tt, tt)
one_ordered false e = tt
