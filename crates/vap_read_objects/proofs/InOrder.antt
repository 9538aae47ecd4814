-- Values in the order of their keys: what is found under each.
use Rattle.std.proofs.Common.{◌≡◌, ◌≤◌, suc, Bool, true, false, not, cond, ◌&&◌, List, [], ◌∷◌, length, Some, None, refl, sym, ap}
use Rattle.std.proofs.Common.{◌∙◌, arith}
use Rattle.std.specs.Prelude.{filter}
use Rattle.std.specs.Cmp.{IsTotalOrder}
use Rattle.std.specs.List.{AllByRecursion}
use Rattle.std.specs.List.Sorted.{IsStrictlySortedBy}
use Rattle.std.specs.Map.{keys_of, lookup}
use Rattle.std.specs.BTreeMap.{is_at}
use Rattle.std.specs.FinMap.Entries.{below_all, find, find-put, find-where_key, is_sorted}
use Rattle.std.specs.FinMap.Entries.{is_sorted-where_key, put, same_entries, where_key}
use Rattle.std.specs.Ordering.{eq_by_cmp, is_eq, is_lt, ordering_reverse}
use Rattle.std.specs.declared.cmp.Ordering.{Ordering}
use Rattle.std.specs.declared.cmp.Ordering.TheVariants.{Less, Equal, Greater}
use Rattle.std.proofs.lemmas.Bool.{and_from}
use Rattle.vap_read_objects.proofs.Order.{holds, told}

-- a key is different from this one
abbrev pub is_other : {K : Type 0} → (K → K → Ordering) → K → K → Bool
is_other R k x = not (eq_by_cmp R k x)

module _ {K X : Type 0} (R : K → K → Ordering) where
  below_from : (x : K) (es : List (K × X)) → AllByRecursion (λ y. R x y ≡ Less) (keys_of es) → below_all R x es ≡ true
  below_from x [] all = refl
  below_from x (e ∷ es) all = and_from (is_lt (R x e.0)) (below_all R x es) (ap is_lt all.0) (below_from x es all.1)

  -- keys in ascending order
  pub sorted_from : (es : List (K × X)) → IsStrictlySortedBy R (keys_of es) → is_sorted R es ≡ true
  unfolding IsStrictlySortedBy
  sorted_from [] h = refl
  sorted_from (e ∷ es) h = and_from (below_all R e.0 es) (is_sorted R es) (below_from e.0 es h.0) (sorted_from es h.1)

  pub find_is : (q : K) (es : List (K × X)) → find R q es ≡ lookup (is_at (R q)) es
  find_is q [] = refl
  find_is q (e ∷ es) = ap (cond (is_eq (R q e.0)) (Some e.1)) (find_is q es)

-- ---- what is found

equal_from : (o : Ordering) → is_eq o ≡ true → o ≡ Equal
equal_from Less h = absurd cc
equal_from Equal h = refl
equal_from Greater h = absurd cc

neither : (a b : Bool) → b ≡ false → not (a && b) ≡ true
neither true b h = ap not h
neither false b h = refl

module _ {K : Type 0} (R : K → K → Ordering) (total : IsTotalOrder R) where
  flipped : (x y : K) → is_at (R x) y ≡ is_at (R y) x
  flipped x y = at (R x y) refl
    where
      at : (o : Ordering) → R x y ≡ o → is_at (R x) y ≡ is_at (R y) x
      at Less h = ap is_eq h ∙ sym (ap is_eq (total.antisymm y x ∙ ap ordering_reverse h))
      at Equal h = ap is_eq h ∙ sym (ap is_eq (total.antisymm y x ∙ ap ordering_reverse h))
      at Greater h = ap is_eq h ∙ sym (ap is_eq (total.antisymm y x ∙ ap ordering_reverse h))

module _ {K X : Type 0} (R : K → K → Ordering) (total : IsTotalOrder R) (same : (x y : K) → R x y ≡ Equal → x ≡ y) where
  pub sorted_others : (p : K → Bool) (es : List (K × X)) → is_sorted R es ≡ true → is_sorted R (where_key R p es) ≡ true
  sorted_others p es h = told (is_sorted R (where_key R p es)) (is_sorted-where_key R p es (holds (is_sorted R es) h))

  found_put : (q k : K) (v : X) (es : List (K × X))
      → lookup (is_at (R q)) (put R k v es) ≡ cond (is_at (R q) k) (Some v) (lookup (is_at (R q)) es)
  found_put q k v es =
      sym (find_is R q (put R k v es)) ∙ find-put R total q k v es ∙ ap (cond (is_at (R q) k) (Some v)) (find_is R q es)

  found_others : (q k : K) (es : List (K × X))
      → lookup (is_at (R q)) (where_key R (is_other R k) es) ≡ cond (is_other R k q) (lookup (is_at (R q)) es) None
  found_others q k es =
      sym (find_is R q (where_key R (is_other R k) es))
      ∙ find-where_key R (is_other R k) q (λ x h. ap (is_other R k) (sym (same q x h))) es
      ∙ ap (λ o. cond (is_other R k q) o None) (find_is R q es)

  -- what is found under each key is all there is
  pub all_found : (es fs : List (K × X)) → is_sorted R es ≡ true → is_sorted R fs ≡ true
      → ((q : K) → lookup (is_at (R q)) es ≡ lookup (is_at (R q)) fs) → es ≡ fs
  all_found es fs one two each =
      same_entries R total same es fs (holds (is_sorted R es) one) (holds (is_sorted R fs) two)
      (λ q. find_is R q es ∙ each q ∙ sym (find_is R q fs))

  module _ (class : K → Bool) (k : K) (old want : List (K × X)) where
    -- what is found under each key is what is wanted, if it was so except for this key
    abbrev pub Settled : List (K × X) → Type 0
    Settled new =
        (q : K) → (not (class k && is_at (R q) k) ≡ true → lookup (is_at (R q)) old ≡ lookup (is_at (R q)) want)
        → lookup (is_at (R q)) new ≡ lookup (is_at (R q)) want

    -- what is wanted under the key is put there
    pub put_settled : (v : X) → lookup (is_at (R k)) want ≡ Some v → Settled (put R k v old)
    put_settled v is q before = found_put q k v old ∙ at (is_at (R q) k) refl
      where
        at : (b : Bool) → is_at (R q) k ≡ b → cond b (Some v) (lookup (is_at (R q)) old) ≡ lookup (is_at (R q)) want
        at true h = sym is ∙ ap (λ x. lookup (is_at (R x)) want) (sym (same q k (equal_from (R q k) h)))
        at false h = before (neither (class k) (is_at (R q) k) h)

    -- or nothing is
    pub taken_settled : lookup (is_at (R k)) want ≡ None → Settled (where_key R (is_other R k) old)
    taken_settled none q before = found_others q k old ∙ at (is_at (R k) q) refl
      where
        at : (b : Bool) → is_at (R k) q ≡ b → cond (not b) (lookup (is_at (R q)) old) None ≡ lookup (is_at (R q)) want
        at true h = sym none ∙ ap (λ x. lookup (is_at (R x)) want) (same k q (equal_from (R k q) h))
        at false h = before (neither (class k) (is_at (R q) k) (flipped R total q k ∙ h))

    -- no key except one of the class is looked at
    pub other_settled : class k ≡ false → Settled old
    other_settled out q before = before (ap (λ b. not (b && is_at (R q) k)) out)

-- some of a list are no more than all
module _ {X : Type 0} (keep : X → Bool) where
  pub no_longer : (xs : List X) → length (filter keep xs) ≤ length xs
  no_longer [] = omega arith
  no_longer (x ∷ xs) = at (keep x) (no_longer xs)
    where
      at : (b : Bool) → length (filter keep xs) ≤ length xs → length (cond b (x ∷ filter keep xs) (filter keep xs)) ≤ suc (length xs)
      at true rest = omega (arith, rest)
      at false rest = omega (arith, rest)
