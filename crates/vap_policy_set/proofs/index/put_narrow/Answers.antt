use Rattle.std.proofs.Common.{subst}
use Rattle.vap_policy_set.specs.Places.{AreNamedBy}
use Rattle.vap_policy_set.specs.PolicyCovering.{rules_in}
use Rattle.vap_policy_set.specs.declared.bound.BoundPolicy.{BoundPolicy}
use Rattle.vap_policy_set.proofs.Entries.{narrow_put}
use Rattle.vap_policy_set.proofs.index.put_narrow.Goals as goal

-- the places are those that the rules name
pub returns : goal.returns
returns c =
    let named =
    subst (λ (p : BoundPolicy). AreNamedBy (rules_in p) c.places.result.now) c.get.ensures c.places.ensures in
    narrow_put c.put_at_each.result c.places.result.now c.args.policy.now c.args.entries.now c.put_at_each.new.entries
    c.requires.narrow named.same c.put_at_each.ensures
