-- `TextMap` as a type that may hold the type that holds it, by its values.
use mathlib.Core.Path.{◌≡◌, refl, sym, ap, subst}
use mathlib.Core.List.{List, [], ◌∷◌, map}
use mathlib.Core.Former.{Former, this, const, pair, list, via, children}
use Prim.Native.Nat.{ℕ}
use base.Stored.{code_map, gcons, coded_list, coded_ℕ}
use denote.RattleType.{RattleType}
use denote.HoleLaws.{Alike}
use denote.HolePlaces.{Recodes, struct_places, laid, stays}
use denote.Hole.Carrier.{listed}
use denote.Hole.Fix.{over}
use denote.Param.Weighed.{Weighed, w_list, w_via, w_pair, w_const}
use denote.Model.Placed.{view_places}
use Rattle.std.specs.List.Sorted.{IsStrictlySortedBy, IsStrictlySortedBy-prop}
use Rattle.std.specs.Ordering.{nat_cmp}
use Rattle.std.specs.Cmp.Lexicographic.{slice_cmp}
use Rattle.std.specs.formers.vec.Vec as vec
use Rattle.std.specs.declared.alloc.Global.{Global}
use Rattle.std.specs.contracts.alloc.Global as heap
use Rattle.std.specs.contracts.impls.GlobalAllocator.TheImpl.{ghosts}
use Rattle.base_containers.specs.declared.text.Keyed.{Keyed}
use Rattle.base_containers.specs.contracts.text.Keyed as K
use Rattle.base_containers.specs.contracts.text.Text as text
use Rattle.base_containers.specs.declared.text_map.TextMap.TheInside.{Inside}
use Rattle.base_containers.specs.declared.text_map.TextMap.TheView.{view, invariant}
use Rattle.base_containers.specs.contracts.text_map.TextMap as C
use Rattle.base_containers.specs.contracts.text_map.TextMap.TheInside as I
use Rattle.base_containers.specs.Keys.{keys_in, entry_code}

abbrev keyed : Former {0} → Former {0}
keyed g = via (pair (const (List ℕ)) g) (λ X. Keyed (g.Of X)) (λ X k. (k.key, k.value)) (λ X p. record { key = p.0; value = p.1 })
    (λ X k. refl) (λ X p. refl)

-- what a map of values holds
abbrev pub the_former : Former {0} → Former {0}
the_former g = list (keyed g)

-- each value in a map is smaller than the map
abbrev pub the_weighed : {g : Former {0}} → Weighed g → Weighed (the_former g)
the_weighed {g} w = w_list (w_via {f = pair (const (List ℕ)) g} (w_pair (w_const (List ℕ)) w) (λ X. Keyed (g.Of X))
    (λ X k. (k.key, k.value)) (λ X p. record { key = p.0; value = p.1 }) (λ X k. refl) (λ X p. refl))

pub the_empty : List (Keyed ⊥)
the_empty = []

-- the values of a map, in the order of their keys
abbrev pub the_items : (X : Type 0) → List (Keyed X) → List X
the_items X d = map (λ e. e.value) d

pub the_items_listed : (X : Type 0) (d : List (Keyed X)) → listed _ (children (the_former this) X d) ≡ the_items X d
the_items_listed X [] = refl
the_items_listed X (e ∷ es) = ap (λ l. e.value ∷ l) (the_items_listed X es)

abbrev fields : Former {0}
fields = via (vec.the_former (keyed this) Global) Inside (λ X a. a.entries) (λ X v. record { entries = v }) (λ X a. refl) (λ X v. refl)

module _ (R S : RattleType) (h : R.Denot → S.Denot) where
  abbrev on_value : Keyed R.Denot → Keyed S.Denot
  on_value e = record { key = e.key; value = h e.value }

  same_keys : (es : List (Keyed R.Denot)) → keys_in (map on_value es) ≡ keys_in es
  same_keys [] = refl
  same_keys (e ∷ es) = ap (λ ks. e.key ∷ ks) (same_keys es)

  keyed_places : Alike R S h → Alike (K.the_row R) (K.the_row S) on_value
  keyed_places a = struct_places (K.the_type R) (K.the_type S) ((λ t. t), (h, tt)) on_value (λ d. refl) refl
      (stays text.the_row, (laid R S h a, tt))

  pub the_places : Alike R S h → Alike (C.the_row R) (C.the_row S) ((the_former this).map R.Denot S.Denot h)
  the_places a = view_places fields (the_former this) view (λ X Y k u. refl) (λ X u. refl) R.Denot S.Denot h (C.the_row R).coded
      (C.the_row S).coded
      (invariant R.Denot) (invariant S.Denot) (λ u. IsStrictlySortedBy-prop (slice_cmp nat_cmp) _)
      (λ u. IsStrictlySortedBy-prop (slice_cmp nat_cmp) _)
      (λ u s. subst (IsStrictlySortedBy (slice_cmp nat_cmp)) (sym (same_keys u.entries.items)) s)
      (λ u s. subst (IsStrictlySortedBy (slice_cmp nat_cmp)) (same_keys u.entries.items) s)
      (over (I.the_row R)) (over (I.the_row S))
      (struct_places (I.the_type R) (I.the_type S) (vec.mapped on_value, tt) _ (λ d. refl) refl
      (laid _ _ _ (vec.the_places heap.the_row ghosts (K.the_row R) (K.the_row S) on_value (keyed_places a)), tt))

  pub the_codes_placed : Recodes R S h → Recodes (C.the_row R) (C.the_row S) ((the_former this).map R.Denot S.Denot h)
  the_codes_placed e d = sym (code_map (entry_code R.coded).code (entry_code S.coded).code on_value
      (λ x i. gcons ((coded_list coded_ℕ).code x.key) (sym (e x.value) i)) d)
