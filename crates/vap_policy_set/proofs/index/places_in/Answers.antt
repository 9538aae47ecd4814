use Rattle.std.proofs.Common.{subst, sym}
use Rattle.vap_policy_set.specs.Places.{AreNamedBy}
use Rattle.vap_policy_set.specs.PolicyCovering.{IsReadOf, places_in, places_of, rules_in}
use Rattle.vap_policy_set.specs.declared.bound.BoundPolicy.{BoundPolicy}
use Rattle.vap_policy_set.proofs.Indexed.{read_at}
use Rattle.vap_policy_set.proofs.SamePlaces.{names_next, names_policy}
use Rattle.vap_policy_set.proofs.index.places_in.Goals as goal

pub places-requires : goal.places-requires
places-requires c =
    let read =
    read_at c.args.policies.now c.loop-policy.policy-index c.policy-item.result c.loop-policy-test.true c.policy-item.is c.requires.read in
    record { read = subst IsReadOf (sym c.get.ensures) read }

pub loop-policy-preserved : goal.loop-policy-preserved
loop-policy-preserved c =
    let l = c.loop-policy in
    let p = c.policy-item.result in
    let named =
    subst (λ (q : BoundPolicy). AreNamedBy (rules_in q) c.places.result.now) c.get.ensures c.places.ensures in
    names_next places_of c.args.policies.now l.policy-index p l.places.items c.put_places.new.places.items
    (places_in c.args.policies.now) c.loop-policy-test.true c.policy-item.is
    (names_policy l.places.items c.put_places.new.places.items c.places.result.now (places_of p) c.in_ok-put_places.ensures named.same)
    l.invariant
