-- What is under each key becomes a value, and the keys keep their order.
use Rattle.std.proofs.Common.{◌≡◌, ℕ, List, [], ◌∷◌, map, refl, ap, sym, subst, nat_cmp}
use Rattle.std.specs.Cmp.Lexicographic.{slice_cmp}
use Rattle.std.specs.List.Sorted.{IsStrictlySortedBy}
use Rattle.base_containers.specs.Keys.{keys_in, IsInKeyOrder}
use Rattle.base_containers.specs.declared.text.Keyed.{Keyed}
use Rattle.vap_policy_programs.specs.RequestValue.{texts_entry}

same_keys : (es : List (Keyed (List (List ℕ)))) → keys_in (map texts_entry es) ≡ keys_in es
same_keys [] = refl
same_keys (e ∷ es) = ap (λ ks. e.key ∷ ks) (same_keys es)

pub stay_ordered : (es : List (Keyed (List (List ℕ)))) → IsInKeyOrder es → IsInKeyOrder (map texts_entry es)
stay_ordered es h = subst (λ ks. IsStrictlySortedBy (slice_cmp nat_cmp) ks) (sym (same_keys es)) h
