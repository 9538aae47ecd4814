use Rattle.std.proofs.Common.{List, ap, subst, ◌∙◌}
use Rattle.vap_policy_set.specs.Index.{AreEnough}
use Rattle.vap_policy_set.specs.Ready.{IsReadyAt}
use Rattle.vap_policy_set.specs.Sets.{Holdings, IsOfObjects, policies_of}
use Rattle.vap_policy_set.specs.declared.bound.BoundPolicy.{BoundPolicy}
use Rattle.vap_policy_set.specs.declared.rules.Rules.{Rules}
use Rattle.vap_policy_set.proofs.Chosen.{chosen_all}
use Rattle.vap_policy_set.proofs.Standing.{set_ready}
use Rattle.vap_policy_set.proofs.set.PolicySet.policies_on.Goals as goal

-- what holds of all policies holds of those that are lent
pub returns-clause-ready : goal.returns-clause-ready
returns-clause-ready c = λ k first.
    let g = c.args.group.now in
    let s = c.args.resource.now in
    let h = c.args.self.now in
    let enough =
    subst (λ (all : List BoundPolicy). AreEnough g s all c.on.result.now)
    (ap (λ (r : Rules). r.policies) c.get.ensures ∙ ap (λ (x : Holdings). policies_of x) c.self.view_is)
    c.on.ensures in
    chosen_all (IsReadyAt h k) g s (policies_of h) c.on.result.now enough
    (
    set_ready c.pairs_are_ready.ensures.ready c.pairs_are_ready.ensures.within h
    (subst IsOfObjects c.self.view_is c.self.invariant.0) k first
    )
