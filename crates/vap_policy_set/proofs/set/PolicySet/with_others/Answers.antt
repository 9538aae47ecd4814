use Rattle.std.proofs.Common.{◌≡◌, List, map, sym, ap, ◌∙◌, subst}
use Rattle.std.specs.List.{All}
use Rattle.vap_read_objects.specs.Listed.{policies_in}
use Rattle.vap_read_objects.specs.Fitted.{Fitted, refitted}
use Rattle.vap_policy_set.specs.Patterns.{IsChoiceFor, of_policies}
use Rattle.vap_read_objects.specs.Reuse.{AreStill}
use Rattle.vap_policy_set.specs.Sets.{Holdings, IsChosen, held_by, holdings_of, of_bound}
use Rattle.vap_policy_set.specs.declared.choice.Choice.{Choice}
use Rattle.vap_policy_set.specs.declared.rules.Rules.{Rules}
use Rattle.vap_policy_set.proofs.Reused.{others_chosen, others_held, namespaces_still, params_still}
use Rattle.vap_policy_set.proofs.set.PolicySet.with_others.Goals as goal

pub params_after-requires : goal.params_after-requires
params_after-requires c =
    subst (λ (qs : List Fitted). All (AreStill c.args.objects.now c.args.events.now) qs)
    (sym (c.as_slice.ensures ∙ ap (λ (h : Holdings). h.params) c.self.view_is))
    (params_still c.args.self.now c.args.events.now c.args.objects.now c.requires.before)

pub namespaces_after-requires : goal.namespaces_after-requires
namespaces_after-requires c = λ missed.
    ap (λ (h : Holdings). h.namespaces) c.self.view_is
    ∙ namespaces_still c.args.self.now c.args.events.now c.args.objects.now c.requires.before missed

abbrev held : (c : goal.In_ok-share)
    → held_by c.events.result c.in_ok-share.field-0 c.in_ok-params.params c.in_ok-namespaces.namespaces
    ≡ holdings_of c.args.objects.now c.in_ok-share.field-0.choice
held c =
    let h = c.args.self.now in
    let objects = c.args.objects.now in
    others_held h c.args.events.now objects c.requires.before c.requires.missed c.in_ok-share.field-0
    (ap (λ (r : Rules). r.choice) c.in_ok-share.ensures ∙ ap (λ (x : Holdings). x.choice) c.self.view_is)
    (ap (λ (r : Rules). r.definitions.kinds) c.in_ok-share.ensures ∙ ap (λ (x : Holdings). x.kinds) c.self.view_is)
    (ap (λ (r : Rules). r.policies) c.in_ok-share.ensures ∙ ap (λ (x : Holdings). x.policies) c.self.view_is)
    c.events.ensures.exact
    (
    c.in_ok-params.ensures
    ∙ ap (map (refitted objects)) (c.as_slice.ensures ∙ ap (λ (x : Holdings). x.params) c.self.view_is)
    )
    c.in_ok-namespaces.ensures

pub invariant_of-result : goal.invariant_of-result
invariant_of-result c = (
  record { objects = c.args.objects.now; is = held c },
  subst (λ (r : Rules). IsChoiceFor (of_bound r.policies) r.choice.refused) (sym c.in_ok-share.ensures) c.self.invariant.1,
)

pub returns-clause-is : goal.returns-clause-is
returns-clause-is c = held c

pub returns-clause-choice : goal.returns-clause-choice
returns-clause-choice c =
    let h = c.args.self.now in
    subst (λ (d : Choice). IsChoiceFor (of_policies (policies_in c.args.objects.now.objects)) d.refused)
    (sym (ap (λ (r : Rules). r.choice) c.in_ok-share.ensures ∙ ap (λ (x : Holdings). x.choice) c.self.view_is))
    (
    others_chosen h c.args.events.now c.args.objects.now c.requires.before c.requires.missed
    (subst IsChosen c.self.view_is c.self.invariant.1)
    )
