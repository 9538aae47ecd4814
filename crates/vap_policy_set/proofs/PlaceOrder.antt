-- Places in order, each once.
use Rattle.std.proofs.Common.{◌≡◌, ℕ, Bool, true, false, cond, ◌||◌, List, [], ◌∷◌, refl, sym, ap, ◌∙◌}
use Rattle.std.specs.Cmp.{IsTotalOrder}
use Rattle.std.specs.Cmp.Lexicographic.{slice_cmp}
use Rattle.std.specs.List.{dedup, dedup_from, list_any}
use Rattle.std.specs.Ordering.{eq_by_cmp, is_eq, nat_cmp}
use Rattle.std.specs.declared.cmp.Ordering.{Ordering}
use Rattle.std.specs.declared.cmp.Ordering.TheVariants.{Less, Equal, Greater}
use Rattle.std.proofs.lemmas.Cmp.{nat_list_cmp_total, on_total, then_total}
use Rattle.std.proofs.lemmas.Map.Lookups.{CmpEqualImpliesEq, exact_bytes, exact_pairs}
use Rattle.vap_policy_set.specs.PlaceOrder.{place_cmp}
use Rattle.vap_policy_set.specs.declared.places.Place.{Place}

abbrev pub place : List ℕ → List ℕ → Place
place group resource = record { group = group; resource = resource }

pub place_total : IsTotalOrder place_cmp
place_total = then_total (on_total (λ k. k.group) nat_list_cmp_total) (on_total (λ k. k.resource) nat_list_cmp_total)

-- places that compare alike are one
pub exact_places : CmpEqualImpliesEq place_cmp
exact_places a b h =
    ap (λ (p : List ℕ × List ℕ). place p.0 p.1)
    (exact_pairs (slice_cmp nat_cmp) (slice_cmp nat_cmp) exact_bytes exact_bytes (a.group, a.resource) (b.group, b.resource) h)

equal_from : (o : Ordering) → is_eq o ≡ true → o ≡ Equal
equal_from Less h = absurd cc
equal_from Equal h = refl
equal_from Greater h = absurd cc

one_place : (x y : Place) → eq_by_cmp place_cmp x y ≡ true → x ≡ y
one_place x y h = exact_places x y (equal_from (place_cmp x y) h)

-- ---- places without those that occur twice

twice : (a b : Bool) → (a || b) ≡ (a || (a || b))
twice true b = refl
twice false b = refl

any_from : (p : Place → Bool) (k : Place) (ks : List Place) → list_any p (dedup_from (eq_by_cmp place_cmp) k ks) ≡ (p k || list_any p ks)
any_from p k [] = refl
any_from p k (x ∷ xs) = at (eq_by_cmp place_cmp x k) refl (any_from p k xs) (any_from p x xs)
  where
    at : (b : Bool) → eq_by_cmp place_cmp x k ≡ b → list_any p (dedup_from (eq_by_cmp place_cmp) k xs) ≡ (p k || list_any p xs)
        → list_any p (dedup_from (eq_by_cmp place_cmp) x xs) ≡ (p x || list_any p xs)
        → list_any p (cond b (dedup_from (eq_by_cmp place_cmp) k xs) (k ∷ dedup_from (eq_by_cmp place_cmp) x xs))
        ≡ (p k || (p x || list_any p xs))
    at true h one other =
        one ∙ twice (p k) (list_any p xs) ∙ ap (λ (y : Place). p k || (p y || list_any p xs)) (sym (one_place x k h))
    at false h one other = ap (λ b. p k || b) other

-- the same places pass a test
pub any_once : (p : Place → Bool) (ks : List Place) → list_any p (dedup (eq_by_cmp place_cmp) ks) ≡ list_any p ks
any_once p [] = refl
any_once p (k ∷ ks) = any_from p k ks
