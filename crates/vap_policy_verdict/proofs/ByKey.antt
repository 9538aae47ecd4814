-- Entries in the order of their keys, each key once.
use Rattle.std.proofs.Common.{Ordering, ◌≡◌, ℕ, suc, Bool, true, false, cond, List, [], ◌∷◌, ◌++◌, Option, Some, None}
use Rattle.std.proofs.Common.{refl, sym, ap, ◌∙◌, subst, ap₂, true≢false, is_some, bytes_eq, Result, Ok, Err}
use Rattle.std.specs.Prelude.{IfOk}
use Rattle.std.specs.Option.{option_or, unwrap_or}
use Rattle.std.specs.List.{AllByRecursion, insert}
use Rattle.std.specs.List.Sorted.{IsStrictlySortedBy}
use Rattle.std.specs.Ordering.{nat_cmp, is_eq, is_lt, ordering_reverse}
use Rattle.std.specs.declared.cmp.Ordering.TheVariants.{Less, Equal, Greater}
use Rattle.std.specs.Cmp.Lexicographic.{slice_cmp}
use Rattle.std.proofs.lemmas.Cmp.{nat_list_cmp_total}
use Rattle.std.proofs.lemmas.Map.Text.{is_eq-slice_cmp}
use Rattle.std.proofs.lemmas.Slice.Eq.{bytes_eq-Decides}
use Rattle.base_containers.specs.Keys.{IsInKeyOrder, keys_in, value_under, place_for, with_entry, without}
use Rattle.base_containers.specs.declared.text.Keyed.{Keyed}
use Rattle.base_containers.proofs.Order.{Below, all_below, with_entry_ordered}
use Rattle.base_containers.proofs.Removal.{without_in_order, none_left}
use Rattle.vap_read_objects.proofs.Names.{same_text}
use Rattle.vap_policy_verdict.specs.DecisionAnnotations.{AreByKey, by_key}

-- entries with the same value under each key
abbrev pub Agree : {V : Type 0} → List (Keyed V) → List (Keyed V) → Type 0
Agree es fs = (key : List ℕ) → value_under key es ≡ value_under key fs

-- ---- texts

pub text_itself : (s : List ℕ) → bytes_eq s s ≡ true
text_itself s = (bytes_eq-Decides s s).1 refl

-- texts that are both a third one are the same
both : (s t u : List ℕ) → bytes_eq s u ≡ true → bytes_eq t u ≡ true → bytes_eq s t ≡ true
both s t u h k = (bytes_eq-Decides s t).1 (same_text s u h ∙ sym (same_text t u k))

-- ---- the value under a key

-- of two lists the first has the value, if it has one
pub value_in_both : {V : Type 0} (k : List ℕ) (es fs : List (Keyed V))
    → value_under k (es ++ fs) ≡ option_or (value_under k es) (value_under k fs)
value_in_both k [] fs = refl
value_in_both k (e ∷ es) fs = at (bytes_eq e.key k) (value_in_both k es fs)
  where
    at : (b : Bool) → value_under k (es ++ fs) ≡ option_or (value_under k es) (value_under k fs)
        → cond b (Some e.value) (value_under k (es ++ fs))
        ≡ option_or (cond b (Some e.value) (value_under k es)) (value_under k fs)
    at true rest = refl
    at false rest = rest

absent_head : {V : Type 0} (b : Bool) (v : V) (o : Option V) → cond b (Some v) o ≡ None → b ≡ false
absent_head true v o h = absurd (true≢false (ap is_some h))
absent_head false v o h = refl

absent_rest : {V : Type 0} (b : Bool) (v : V) (o : Option V) → cond b (Some v) o ≡ None → o ≡ None
absent_rest true v o h = absurd (true≢false (ap is_some h))
absent_rest false v o h = h

-- a new entry has its value under its key, and changes no other
pub value_with : {V : Type 0} (k l : List ℕ) (v : V) (es : List (Keyed V)) → value_under l es ≡ None
    → value_under k (with_entry l v es) ≡ cond (bytes_eq l k) (Some v) (value_under k es)
value_with k l v [] absent = refl
value_with {V} k l v (e ∷ es) absent =
    at (is_lt (slice_cmp nat_cmp l e.key))
    (value_with k l v es (absent_rest (bytes_eq e.key l) e.value (value_under l es) absent))
  where
    under : (a b : Bool) → bytes_eq e.key k ≡ a → bytes_eq l k ≡ b → (o : Option V) → o ≡ cond b (Some v) (value_under k es)
        → cond a (Some e.value) o ≡ cond b (Some v) (cond a (Some e.value) (value_under k es))
    under true true h i o rest =
        absurd (true≢false (sym (both e.key l k h i) ∙ absent_head (bytes_eq e.key l) e.value (value_under l es) absent))
    under true false h i o rest = refl
    under false true h i o rest = rest
    under false false h i o rest = rest

    at : (b : Bool) → value_under k (with_entry l v es) ≡ cond (bytes_eq l k) (Some v) (value_under k es)
        → value_under k (insert (e ∷ es) (cond b 0 (suc (place_for l es))) (record { key = l; value = v }))
        ≡ cond (bytes_eq l k) (Some v) (value_under k (e ∷ es))
    at true rest = refl
    at false rest = under (bytes_eq e.key k) (bytes_eq l k) refl refl (value_under k (with_entry l v es)) rest

-- what is under another key stays
value_without : {V : Type 0} (k l : List ℕ) (es : List (Keyed V)) → bytes_eq l k ≡ false
    → value_under k (without l es) ≡ value_under k es
value_without k l [] other = refl
value_without k l (e ∷ es) other = at (bytes_eq e.key l) refl (value_without k l es other)
  where
    at : (b : Bool) → bytes_eq e.key l ≡ b → value_under k (without l es) ≡ value_under k es
        → value_under k (cond b es (e ∷ without l es)) ≡ cond (bytes_eq e.key k) (Some e.value) (value_under k es)
    at true same rest =
        let apart : bytes_eq e.key k ≡ false = subst (λ s. bytes_eq s k ≡ false) (sym (same_text e.key l same)) other in
        sym (ap (λ b. cond b (Some e.value) (value_under k es)) apart)
    at false same rest = ap (cond (bytes_eq e.key k) (Some e.value)) rest

-- ---- a list by its keys

by_key_ordered : {V : Type 0} (es : List (Keyed V)) → IsInKeyOrder (by_key es)
unfolding IsStrictlySortedBy
by_key_ordered [] = tt
by_key_ordered (e ∷ es) =
    let rest = by_key_ordered es in
    with_entry_ordered e.key e.value (without e.key (by_key es))
    (without_in_order e.key (by_key es) rest)
    (none_left e.key (by_key es) rest)

by_key_agrees : {V : Type 0} (es : List (Keyed V)) → Agree (by_key es) es
by_key_agrees [] k = refl
by_key_agrees (e ∷ es) k =
    value_with k e.key e.value (without e.key (by_key es)) (none_left e.key (by_key es) (by_key_ordered es))
    ∙ at (bytes_eq e.key k) refl (by_key_agrees es k)
  where
    at : (b : Bool) → bytes_eq e.key k ≡ b → value_under k (by_key es) ≡ value_under k es
        → cond b (Some e.value) (value_under k (without e.key (by_key es))) ≡ cond b (Some e.value) (value_under k es)
    at true h rest = refl
    at false h rest = value_without k e.key (by_key es) h ∙ rest

-- this is what it is to be by key
pub by_key_is : {V : Type 0} (es : List (Keyed V)) → AreByKey es (by_key es)
by_key_is es = record { order = by_key_ordered es; values = by_key_agrees es }

-- ---- nothing else is

none_above : {V : Type 0} (k : List ℕ) (es : List (Keyed V)) → AllByRecursion (Below k) (keys_in es) → value_under k es ≡ None
none_above k [] h = refl
none_above k (e ∷ es) h =
    ap (λ b. cond b (Some e.value) (value_under k es)) (sym (is_eq-slice_cmp e.key k) ∙ ap is_eq above)
    ∙ none_above k es h.1
  where
    above : slice_cmp nat_cmp e.key k ≡ Greater
    above = nat_list_cmp_total.antisymm e.key k ∙ ap ordering_reverse h.0

first_value : {V : Type 0} (e : Keyed V) (es : List (Keyed V)) → value_under e.key (e ∷ es) ≡ Some e.value
first_value e es = ap (λ b. cond b (Some e.value) (value_under e.key es)) (text_itself e.key)

-- a key that is below all of one list is not the first of the other
not_below : {V : Type 0} (e f : Keyed V) (es fs : List (Keyed V)) → IsInKeyOrder (f ∷ fs) → Agree (e ∷ es) (f ∷ fs)
    → Below e.key f.key → ⊥
unfolding IsStrictlySortedBy
not_below e f es fs s agree h =
    let none = none_above e.key (f ∷ fs) (h, all_below e.key f.key (keys_in fs) h s.0) in
    true≢false (ap is_some (sym (first_value e es) ∙ agree e.key ∙ none))

same_entry : {V : Type 0} (e f : Keyed V) → e.key ≡ f.key → e.value ≡ f.value → e ≡ f
same_entry e f k v = ap₂ (λ k v. record { key = k; value = v }) k v

-- entries in the order of their keys that have the same values are the same
pub same_entries : {V : Type 0} (es fs : List (Keyed V)) → IsInKeyOrder es → IsInKeyOrder fs → Agree es fs → es ≡ fs
unfolding IsStrictlySortedBy
same_entries [] [] s t agree = refl
same_entries [] (f ∷ fs) s t agree = absurd (true≢false (ap is_some (sym (first_value f fs) ∙ sym (agree f.key))))
same_entries (e ∷ es) [] s t agree = absurd (true≢false (ap is_some (sym (first_value e es) ∙ agree e.key)))
same_entries {V} (e ∷ es) (f ∷ fs) s t agree = at (slice_cmp nat_cmp e.key f.key) refl (same_entries es fs s.1 t.1)
  where
    rest : e.key ≡ f.key → (k : List ℕ) (b : Bool) → bytes_eq e.key k ≡ b → value_under k es ≡ value_under k fs
    rest same k true h =
        let own : e.key ≡ k = same_text e.key k h in
        subst (λ q. value_under q es ≡ None) own (none_above e.key es s.0)
        ∙ sym (subst (λ q. value_under q fs ≡ None) (sym same ∙ own) (none_above f.key fs t.0))
    rest same k false h =
        let other : bytes_eq f.key k ≡ false = subst (λ q. bytes_eq q k ≡ false) same h in
        sym (ap (λ b. cond b (Some e.value) (value_under k es)) h)
        ∙ agree k
        ∙ ap (λ b. cond b (Some f.value) (value_under k fs)) other

    at : (o : Ordering) → slice_cmp nat_cmp e.key f.key ≡ o → (Agree es fs → es ≡ fs) → e ∷ es ≡ f ∷ fs
    at Less h more = absurd (not_below e f es fs t agree h)
    at Greater h more =
        absurd (not_below f e fs es s (λ k. sym (agree k)) (nat_list_cmp_total.antisymm f.key e.key ∙ ap ordering_reverse h))
    at Equal h more =
        let same : e.key ≡ f.key = same_text e.key f.key (sym (is_eq-slice_cmp e.key f.key) ∙ ap is_eq h) in
        let value : Some e.value ≡ Some f.value =
        sym (first_value e es) ∙ agree e.key ∙ ap (λ k. value_under k (f ∷ fs)) same ∙ first_value f fs in
        ap₂ (λ x xs. x ∷ xs)
        (same_entry e f same (ap (λ o. unwrap_or o e.value) value))
        (more (λ k. rest same k (bytes_eq e.key k) refl))

-- what is by key is the list by its keys
pub is_by_key : {V : Type 0} (es ordered : List (Keyed V)) → AreByKey es ordered → ordered ≡ by_key es
is_by_key es ordered is =
    same_entries ordered (by_key es) is.order (by_key_ordered es) (λ k. is.values k ∙ sym (by_key_agrees es k))

-- so it is if there is a list
pub each_by_key : {V E : Type 0} (r : Result (List (Keyed V)) E) (es : List (Keyed V)) → IfOk r (AreByKey es)
    → IfOk r (λ ordered. ordered ≡ by_key es)
each_by_key (Ok ordered) es is = is_by_key es ordered is
each_by_key (Err e) es is = tt
