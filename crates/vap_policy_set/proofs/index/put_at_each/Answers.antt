use Rattle.std.proofs.Common.{◌≡◌, [], ◌∷◌, ◌+◌, List, ap, arith, drop, map, sym, subst, ◌∙◌}
use Rattle.std.proofs.lemmas.List.{drop_all}
use Rattle.std.proofs.lemmas.Map.Keys.{sorted_tail}
use Rattle.std.specs.List.Sorted.{IsStrictlySortedBy}
use Rattle.vap_policy_set.specs.Index.{AreApart, with_named}
use Rattle.vap_policy_set.specs.PlaceOrder.{place_cmp}
use Rattle.vap_policy_set.specs.declared.index.Entry.{Entry}
use Rattle.vap_policy_set.specs.declared.places.Place.{Place}
use Rattle.vap_policy_programs.proofs.Each.{next_is}
use Rattle.vap_policy_set.proofs.Entries.{places_named, put_next, put_none}
use Rattle.vap_policy_set.proofs.index.put_at_each.Goals as goal

-- the place where the loop is comes before those that are left
pub loop-place-preserved : goal.loop-place-preserved
loop-place-preserved c =
    let l = c.loop-place in
    let k = c.place-item.result in
    let p = c.args.policy.now in
    let rest = drop (l.place-index + 1) c.args.places.now in
    let cut = next_is c.args.places.now l.place-index k c.loop-place-test.true c.place-item.is in
    let ordered = subst (IsStrictlySortedBy place_cmp) cut l.invariant.ordered in
    let put : c.put_at.new.entries ≡ map (with_named (k ∷ []) p) l.entries = c.in_ok-put_at.ensures in
    record {
      rest = ap (λ (es : List Entry). map (with_named rest p) es) put
          ∙ put_next k rest p l.entries ordered
          ∙ ap (λ (ks : List Place). map (with_named ks p) l.entries) (sym cut)
          ∙ l.invariant.rest;
      ordered = sorted_tail place_cmp k rest ordered;
      apart = subst AreApart (sym put)
          (subst (IsStrictlySortedBy place_cmp) (sym (places_named (k ∷ []) p l.entries)) l.invariant.apart);
    }

-- for no places that are left nothing is put
pub returns : goal.returns
returns c =
    let l = c.loop-place in
    let p = c.args.policy.now in
    let none = drop_all l.place-index c.args.places.now (omega (arith, c.loop-place-test.false)) in
    sym (put_none p l.entries) ∙ ap (λ (ks : List Place). map (with_named ks p) l.entries) (sym none) ∙ l.invariant.rest
