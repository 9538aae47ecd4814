-- Entries in the order of their keys: parts of them, and others in place of the one of a key.
use Rattle.std.proofs.Common.{◌≡◌, ◌<◌, ◌+◌, ℕ, zero, suc, Bool, true, false, not, cond, List, [], ◌∷◌, ◌++◌, length}
use Rattle.std.proofs.Common.{T, get_or, refl, sym, ap, ◌∙◌, subst, arith}
use Rattle.std.specs.Prelude.{IfSome, Option, None, Some, option_to_list}
use Rattle.std.specs.FinMap.Entries.{below_all, by_order, is_sorted, is_sorted-put, is_sorted-where_key, put, where_key}
use Rattle.std.specs.List.{AllByRecursion}
use Rattle.std.specs.Ordering.{eq_by_cmp, is_eq, is_gt, is_lt, ordering_reverse}
use Rattle.std.specs.declared.cmp.Ordering.{Ordering}
use Rattle.std.specs.declared.cmp.Ordering.TheVariants.{Less, Equal, Greater}
use Rattle.std.proofs.lemmas.Bool.{and_parts, and_from}
use Rattle.vap_read_objects.proofs.Classed.{same_key}
use Rattle.vap_read.specs.Keys.{key_cmp}
use Rattle.vap_read.specs.declared.key.Key.{Key}
use Rattle.vap_read.specs.declared.object.Object.{Object}
use Rattle.vap_read.proofs.KeyOrder.{key_total}
use Rattle.vap_read_objects.specs.Tables.{AreInOrder, entries_in, entry_of, replaced}
use Rattle.vap_read_objects.specs.declared.entry.Entry.{Entry}

-- a key is different from this one
abbrev pub is_other : Key → Key → Bool
is_other this k = not (eq_by_cmp key_cmp this k)

pub less_from : (o : Ordering) → is_lt o ≡ true → o ≡ Less
less_from Less h = refl
less_from Equal h = absurd cc
less_from Greater h = absurd cc

pub greater_from : (o : Ordering) → is_gt o ≡ true → o ≡ Greater
greater_from Less h = absurd cc
greater_from Equal h = absurd cc
greater_from Greater h = refl

pub turned : (x y : Key) (o : Ordering) → key_cmp x y ≡ o → key_cmp y x ≡ ordering_reverse o
turned x y o h = key_total.antisymm y x ∙ ap ordering_reverse h

-- a key above another is above each that is below that
pub above_both : (k x y : Key) → key_cmp x y ≡ Less → key_cmp k y ≡ Greater → key_cmp k x ≡ Greater
above_both k x y low high = turned x k Less (key_total.trans x y k low (turned k y Greater high))

pub holds : (b : Bool) → b ≡ true → T b
holds b h = subst T (sym h) tt

pub told : (b : Bool) → T b → b ≡ true
told true h = refl
told false h = absurd h

module _ {V : Type 0} where
  -- ---- parts of what is in order

  below_first : (x : Key) (es fs : List (Entry V)) → below_all key_cmp x (entries_in (es ++ fs)) ≡ true
      → below_all key_cmp x (entries_in es) ≡ true
  below_first x [] fs h = refl
  below_first x (e ∷ es) fs h =
      let parts = and_parts (is_lt (key_cmp x e.key)) (below_all key_cmp x (entries_in (es ++ fs))) h in
      and_from (is_lt (key_cmp x e.key)) (below_all key_cmp x (entries_in es)) parts.0 (below_first x es fs parts.1)

  pub in_order_first : (es fs : List (Entry V)) → AreInOrder (es ++ fs) → AreInOrder es
  in_order_first [] fs h = refl
  in_order_first (e ∷ es) fs h =
      let parts = and_parts (below_all key_cmp e.key (entries_in (es ++ fs))) (is_sorted key_cmp (entries_in (es ++ fs))) h in
      and_from (below_all key_cmp e.key (entries_in es)) (is_sorted key_cmp (entries_in es)) (below_first e.key es fs parts.0)
      (in_order_first es fs parts.1)

  pub in_order_rest : (es fs : List (Entry V)) → AreInOrder (es ++ fs) → AreInOrder fs
  in_order_rest [] fs h = h
  in_order_rest (e ∷ es) fs h =
      let parts = and_parts (below_all key_cmp e.key (entries_in (es ++ fs))) (is_sorted key_cmp (entries_in (es ++ fs))) h in
      in_order_rest es fs parts.1

  -- ---- what is below the last is below all that the last is below

  below_at : (x : Key) (es : List (Entry V)) (i : ℕ) (d : Entry V) → below_all key_cmp x (entries_in es) ≡ true → i < length es
      → key_cmp x (get_or es i d).key ≡ Less
  below_at x [] i d h lt = absurd (omega (arith, lt))
  below_at x (e ∷ es) zero d h lt =
      less_from _ (and_parts (is_lt (key_cmp x e.key)) (below_all key_cmp x (entries_in es)) h).0
  below_at x (e ∷ es) (suc i) d h lt =
      below_at x es i d (and_parts (is_lt (key_cmp x e.key)) (below_all key_cmp x (entries_in es)) h).1 (omega (arith, lt))

  -- a key above the entry at a place is above those before it
  pub above_to : (k : Key) (es : List (Entry V)) (i : ℕ) (d : Entry V) → AreInOrder es → i + 1 ≡ length es
      → key_cmp k (get_or es i d).key ≡ Greater → AllByRecursion (λ e. is_gt (key_cmp k e.key) ≡ true) es
  above_to k [] i d h last above = tt
  above_to k (e ∷ es) zero d h last above = at es (omega (arith, last))
    where
      at : (fs : List (Entry V)) → length fs ≡ 0 → AllByRecursion (λ f. is_gt (key_cmp k f.key) ≡ true) (e ∷ fs)
      at [] none = (ap is_gt above, tt)
      at (f ∷ fs) none = absurd (omega (arith, none))
  above_to k (e ∷ es) (suc i) d h last above =
      let parts = and_parts (below_all key_cmp e.key (entries_in es)) (is_sorted key_cmp (entries_in es)) h in (
        ap is_gt (above_both k e.key (get_or es i d).key (below_at e.key es i d parts.0 (omega (arith, last))) above),
        above_to k es i d parts.1 (omega (arith, last)) above,
      )

  -- ---- what is put, and what is taken away

  -- an entry in place of the one of its key
  pub entries_put : (e : Entry V) (es : List (Entry V))
      → entries_in (replaced e.key (e ∷ []) es) ≡ put key_cmp e.key e.object (entries_in es)
  entries_put e [] = refl
  entries_put e (f ∷ es) = at (key_cmp e.key f.key) refl (entries_put e es)
    where
      at : (o : Ordering) → key_cmp e.key f.key ≡ o → entries_in (replaced e.key (e ∷ []) es) ≡ put key_cmp e.key e.object (entries_in es)
          → entries_in (by_order o (e ∷ f ∷ es) (e ∷ es) (f ∷ replaced e.key (e ∷ []) es))
          ≡ by_order o ((e.key, e.object) ∷ entry_of f ∷ entries_in es) ((f.key, e.object) ∷ entries_in es)
          (entry_of f ∷ put key_cmp e.key e.object (entries_in es))
      at Less h rest = refl
      at Equal h rest = ap (λ (x : Key). (x, e.object) ∷ entries_in es) (same_key e.key f.key h)
      at Greater h rest = ap (λ xs. entry_of f ∷ xs) rest

  -- what is above a key that is not below this one is kept
  others_above : (k x : Key) → ((y : Key) → key_cmp x y ≡ Less → key_cmp k y ≡ Less) → (es : List (Entry V))
      → below_all key_cmp x (entries_in es) ≡ true → where_key key_cmp (is_other k) (entries_in es) ≡ entries_in es
  others_above k x apart [] h = refl
  others_above k x apart (e ∷ es) h =
      let parts = and_parts (is_lt (key_cmp x e.key)) (below_all key_cmp x (entries_in es)) h in
      let rest = where_key key_cmp (is_other k) (entries_in es) in
      ap (λ o. cond (not (is_eq o)) (entry_of e ∷ rest) rest) (apart e.key (less_from _ parts.0))
      ∙ ap (λ xs. entry_of e ∷ xs) (others_above k x apart es parts.1)

  -- nothing in place of the one of a key
  pub entries_without : (k : Key) (es : List (Entry V)) → AreInOrder es
      → entries_in (replaced k [] es) ≡ where_key key_cmp (is_other k) (entries_in es)
  entries_without k [] h = refl
  entries_without k (e ∷ es) h =
      let parts = and_parts (below_all key_cmp e.key (entries_in es)) (is_sorted key_cmp (entries_in es)) h in
      at (key_cmp k e.key) refl parts.0 (entries_without k es parts.1)
    where
      others : List (Key × Object)
      others = where_key key_cmp (is_other k) (entries_in es)

      at : (o : Ordering) → key_cmp k e.key ≡ o → below_all key_cmp e.key (entries_in es) ≡ true
          → entries_in (replaced k [] es) ≡ where_key key_cmp (is_other k) (entries_in es)
          → entries_in (by_order o (e ∷ es) es (e ∷ replaced k [] es))
          ≡ cond (not (is_eq o)) (entry_of e ∷ where_key key_cmp (is_other k) (entries_in es))
          (where_key key_cmp (is_other k) (entries_in es))
      at Less h above rest =
          ap (λ xs. entry_of e ∷ xs) (sym (others_above k e.key (λ y low. key_total.trans k e.key y h low) es above))
      at Equal h above rest =
          sym (others_above k e.key (λ y low. ap (λ z. key_cmp z y) (same_key k e.key h) ∙ low) es above)
      at Greater h above rest = ap (λ xs. entry_of e ∷ xs) rest

  -- ---- order is kept

  pub in_order_put : (e : Entry V) (es : List (Entry V)) → AreInOrder es → AreInOrder (replaced e.key (e ∷ []) es)
  in_order_put e es h =
      ap (is_sorted key_cmp) (entries_put e es)
      ∙ told (is_sorted key_cmp (put key_cmp e.key e.object (entries_in es)))
      (is_sorted-put key_cmp key_total e.key e.object (entries_in es) (holds (is_sorted key_cmp (entries_in es)) h))

  pub in_order_without : (k : Key) (es : List (Entry V)) → AreInOrder es → AreInOrder (replaced k [] es)
  in_order_without k es h =
      ap (is_sorted key_cmp) (entries_without k es h)
      ∙ told (is_sorted key_cmp (where_key key_cmp (is_other k) (entries_in es)))
      (is_sorted-where_key key_cmp (is_other k) (entries_in es) (holds (is_sorted key_cmp (entries_in es)) h))

  -- what there is under a key in place of what there was
  pub in_order_set : (k : Key) (entry : Option (Entry V)) (old new : List (Entry V)) → IfSome entry (λ e. e.key ≡ k) → AreInOrder old
      → new ≡ replaced k (option_to_list entry) old → AreInOrder new
  in_order_set k None old new same h is = subst AreInOrder (sym is) (in_order_without k old h)
  in_order_set k (Some e) old new same h is =
      subst AreInOrder (sym is) (subst (λ (x : Key). AreInOrder (replaced x (e ∷ []) old)) same (in_order_put e old h))
