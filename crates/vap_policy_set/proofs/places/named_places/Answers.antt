use Rattle.std.proofs.Common.{◌++◌, List, ap, subst, sym, ◌∙◌}
use Rattle.std.specs.List.{flat_map, list_any}
use Rattle.std.specs.List.Sorted.{IsStrictlySortedBy}
use Rattle.vap_policy_set.specs.PlaceOrder.{place_cmp}
use Rattle.vap_policy_set.specs.Places.{is_place, rule_places}
use Rattle.vap_policy_set.specs.declared.places.Place.{Place}
use Rattle.vap_policy_set.proofs.SamePlaces.{named_by}
use Rattle.vap_policy_set.proofs.places.named_places.Goals as goal

pub returns : goal.returns
returns c =
    named_by c.owned_places.result c.args.rules.now c.as_slice.result.now
    (subst (IsStrictlySortedBy place_cmp) (sym c.as_slice.ensures.value) c.put_in_order.ensures.ordered)
    (λ g s.
    ap (list_any (is_place g s)) c.as_slice.ensures.value
    ∙ c.put_in_order.ensures.same g s
    ∙ c.in_ok-put_rules.ensures g s
    ∙ ap (λ (ks : List Place). list_any (is_place g s) (ks ++ flat_map rule_places c.args.rules.now)) c.new-places.ensures.items)
    c.owned_places.ensures
