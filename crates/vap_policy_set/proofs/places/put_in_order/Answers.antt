use Rattle.std.proofs.Common.{refl, ap, sym, subst, ◌∙◌}
use Rattle.std.specs.List.{list_any}
use Rattle.std.specs.List.Sorted.{IsStrictlySortedBy}
use Rattle.std.proofs.lemmas.List.Filters.{dedup_is}
use Rattle.std.proofs.lemmas.List.Kept.{IsStrictlySortedBy-dedup}
use Rattle.std.proofs.lemmas.List.Sorted.{list_any-IsPermutation}
use Rattle.vap_policy_set.specs.PlaceOrder.{place_cmp}
use Rattle.vap_policy_set.specs.Places.{is_place}
use Rattle.vap_policy_set.proofs.PlaceOrder.{any_once, place_total}
use Rattle.vap_policy_set.proofs.places.put_in_order.Goals as goal

pub returns : goal.returns
returns c =
    let is = dedup_is _ _ _ c.dedup.ensures.filtered in
    record {
      ordered = subst (IsStrictlySortedBy place_cmp) (sym is)
          (IsStrictlySortedBy-dedup place_total (λ x y. refl) _ c.sort_unstable.ensures.sorted);
      same = λ g s.
          ap (list_any (is_place g s)) is
          ∙ any_once (is_place g s) _
          ∙ sym (list_any-IsPermutation (is_place g s) _ _ c.sort_unstable.ensures.permutation);
    }
