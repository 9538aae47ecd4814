-- Which keys are between the first one of a version and kind and the first one of the next kind.
use Rattle.std.proofs.Common.{◌≡◌, ◌<◌, ℕ, Bool, true, false, not, ◌&&◌, List, [], ◌∷◌, ◌++◌, cond, filter, refl, sym, subst, ap, ap₂, ◌∙◌}
use Rattle.std.proofs.Common.{Ordering, Less, Equal, Greater, true≢false, arith}
use Rattle.std.proofs.lemmas.Cmp.{by_ranked, nat_cmp_total, nat_list_cmp_total, nat_list_eq_equiv, ranked, tied_itself}
use Rattle.std.proofs.lemmas.Map.Text.{is_eq-slice_cmp}
use Rattle.std.proofs.lemmas.List.Kept.{IsStrictlySortedBy-filter}
use Rattle.std.specs.BTreeMap.Range.{entries_between, range_contains}
use Rattle.std.specs.Cmp.Lexicographic.{slice_cmp}
use Rattle.std.specs.List.Sorted.{IsStrictlySortedBy}
use Rattle.std.specs.Map.{keys_of}
use Rattle.std.specs.Ordering.{is_eq, is_gt, is_le, is_lt, nat_cmp, ordering_then}
use Rattle.std.specs.Str.{bytes_eq}
use Rattle.std.specs.declared.ops.Bound.TheVariants.{Included, Excluded}
use Rattle.vap_read.specs.Keys.{first_key, is_of, key_cmp}
use Rattle.vap_read.specs.declared.key.Key.{Key}

-- ---- texts

-- no text is before the empty one
none_before : (xs : List ℕ) → is_le (slice_cmp nat_cmp [] xs) ≡ true
none_before [] = refl
none_before (x ∷ xs) = refl

along : (o r s : Ordering) → is_le r ≡ is_lt s → is_le (ordering_then o r) ≡ is_lt (ordering_then o s)
along Less r s h = refl
along Equal r s h = h
along Greater r s h = refl

none_below : (x : ℕ) → x < 0 → ⊥
none_below x less = omega (arith, less)

-- nothing is between a text and the same with a zero behind it
next_text : (text xs : List ℕ) → is_le (slice_cmp nat_cmp (text ++ 0 ∷ []) xs) ≡ is_lt (slice_cmp nat_cmp text xs)
next_text [] [] = refl
next_text [] (x ∷ xs) =
    by_ranked (0 < x) (0 ≡ x) (x < 0) (nat_cmp 0 x) (ranked 0 x (nat_cmp 0 x) refl)
    (λ is less. ap (λ o. is_le (ordering_then o (slice_cmp nat_cmp [] xs))) is)
    (λ is same. ap (λ o. is_le (ordering_then o (slice_cmp nat_cmp [] xs))) is ∙ none_before xs) (λ is less. absurd (none_below x less))
next_text (t ∷ ts) [] = refl
next_text (t ∷ ts) (x ∷ xs) = along (nat_cmp t x) (slice_cmp nat_cmp (ts ++ 0 ∷ []) xs) (slice_cmp nat_cmp ts xs) (next_text ts xs)

before_next : (text : List ℕ) → slice_cmp nat_cmp text (text ++ 0 ∷ []) ≡ Less
before_next [] = refl
before_next (t ∷ ts) = ap₂ ordering_then (tied_itself nat_cmp_total t) (before_next ts)

same_texts : (xs ys : List ℕ) → is_eq (slice_cmp nat_cmp xs ys) ≡ bytes_eq ys xs
same_texts xs ys = is_eq-slice_cmp xs ys ∙ nat_list_eq_equiv.symm xs ys

-- ---- keys

none_before_either : (o r : Ordering) → is_le o ≡ true → is_le r ≡ true → is_le (ordering_then o r) ≡ true
none_before_either Less r h g = refl
none_before_either Equal r h g = g
none_before_either Greater r h g = h

-- what compares to the first by `a`, `b` and `c` and to the next by `a`, `next` and `c`
between : (a b c next : Ordering) → is_le c ≡ true → is_le next ≡ is_lt b
    → (is_le (ordering_then a (ordering_then b c)) && not (is_le (ordering_then a (ordering_then next c)))) ≡ (is_eq a && is_eq b)
between Less b c next h g = refl
between Greater b c next h g = refl
between Equal Greater c next h g = refl
between Equal Less c Less h g = refl
between Equal Less c Equal h g = ap not h
between Equal Less c Greater h g = absurd (true≢false (sym g))
between Equal Equal c Less h g = absurd (true≢false g)
between Equal Equal c Equal h g = absurd (true≢false g)
between Equal Equal c Greater h g = ap (λ b. b && true) h

pub in_kind : (api_version kind : List ℕ) (k : Key)
    → range_contains key_cmp (Included (first_key api_version kind)) (Excluded (first_key api_version (kind ++ 0 ∷ []))) k
    ≡ is_of api_version kind k
in_kind api_version kind k =
    between (slice_cmp nat_cmp api_version k.api_version) (slice_cmp nat_cmp kind k.kind)
    (ordering_then (slice_cmp nat_cmp [] k.namespace) (slice_cmp nat_cmp [] k.name)) (slice_cmp nat_cmp (kind ++ 0 ∷ []) k.kind)
    (none_before_either (slice_cmp nat_cmp [] k.namespace) (slice_cmp nat_cmp [] k.name) (none_before k.namespace) (none_before k.name))
    (next_text kind k.kind)
    ∙ ap₂ (λ a b. a && b) (same_texts api_version k.api_version) (same_texts kind k.kind)

-- the first key of a kind is before the first one of the next
pub forward : (api_version kind : List ℕ)
    → is_gt (key_cmp (first_key api_version kind) (first_key api_version (kind ++ 0 ∷ []))) ≡ false
forward api_version kind =
    ap₂ (λ a b. is_gt (ordering_then a (ordering_then b Equal))) (tied_itself nat_list_cmp_total api_version) (before_next kind)

pub entries_of_kind : {X : Type 0} (api_version kind : List ℕ) (es : List (Key × X))
    → entries_between key_cmp (Included (first_key api_version kind)) (Excluded (first_key api_version (kind ++ 0 ∷ []))) es
    ≡ filter (λ e. is_of api_version kind e.0) es
entries_of_kind api_version kind es = λ i. filter (λ e. in_kind api_version kind e.0 i) es

-- the same of keys that are made of texts
module _ (first behind : Key) (api_version kind this next : List ℕ) (first_is : first ≡ first_key api_version this) (this_is : this ≡ kind)
    (behind_is : behind ≡ first_key api_version next) (next_is : next ≡ kind ++ 0 ∷ []) where
  pub made_forward : is_gt (key_cmp first behind) ≡ false
  made_forward =
      ap₂ (λ x y. is_gt (key_cmp x y)) (first_is ∙ ap (first_key api_version) this_is) (behind_is ∙ ap (first_key api_version) next_is)
      ∙ forward api_version kind

  pub made_entries : {X : Type 0} (es found : List (Key × X)) → found ≡ entries_between key_cmp (Included first) (Excluded behind) es
      → found ≡ filter (λ e. is_of api_version kind e.0) es
  made_entries es found between_them =
      between_them
      ∙ ap₂ (λ x y. entries_between key_cmp (Included x) (Excluded y) es) (first_is ∙ ap (first_key api_version) this_is)
      (behind_is ∙ ap (first_key api_version) next_is)
      ∙ entries_of_kind api_version kind es

-- ---- in order

module _ {X : Type 0} (class : Key → Bool) where
  kept_keys : (es : List (Key × X)) → keys_of (filter (λ e. class e.0) es) ≡ filter class (keys_of es)
  kept_keys [] = refl
  kept_keys (e ∷ es) = at (class e.0) (kept_keys es)
    where
      at : (b : Bool) → keys_of (filter (λ e. class e.0) es) ≡ filter class (keys_of es)
          → keys_of (cond b (e ∷ filter (λ e. class e.0) es) (filter (λ e. class e.0) es))
          ≡ cond b (e.0 ∷ filter class (keys_of es)) (filter class (keys_of es))
      at true same = ap (λ ks. e.0 ∷ ks) same
      at false same = same

  -- the entries whose keys are of a class are in order as all are
  kept_sorted : (es : List (Key × X)) → IsStrictlySortedBy key_cmp (keys_of es)
      → IsStrictlySortedBy key_cmp (keys_of (filter (λ e. class e.0) es))
  kept_sorted es sorted =
      subst (IsStrictlySortedBy key_cmp) (sym (kept_keys es)) (IsStrictlySortedBy-filter key_cmp class (keys_of es) sorted)

  pub found_sorted : (es found : List (Key × X)) → found ≡ filter (λ e. class e.0) es → IsStrictlySortedBy key_cmp (keys_of es)
      → IsStrictlySortedBy key_cmp (keys_of found)
  found_sorted es found is sorted =
      subst (λ those. IsStrictlySortedBy key_cmp (keys_of those)) (sym is) (kept_sorted es sorted)
