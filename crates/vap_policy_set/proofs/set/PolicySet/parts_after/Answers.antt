use Rattle.std.proofs.Common.{List, sym, ap, ◌∙◌, subst}
use Rattle.std.specs.List.{All}
use Rattle.vap_read_objects.specs.Fitted.{Fitted}
use Rattle.vap_read_objects.specs.Reuse.{AreStill}
use Rattle.vap_policy_set.specs.Sets.{Holdings}
use Rattle.vap_policy_set.specs.declared.rules.Rules.{Rules}
use Rattle.vap_read_objects.proofs.Reused.{all_refitted}
use Rattle.vap_policy_set.proofs.Reused.{kinds_still, namespaces_still, params_still}
use Rattle.vap_policy_set.proofs.set.PolicySet.parts_after.Goals as goal

pub definitions_after-requires : goal.definitions_after-requires
definitions_after-requires c = λ missed.
    ap (λ (r : Rules). r.definitions.kinds) c.get.ensures
    ∙ ap (λ (h : Holdings). h.kinds) c.self.view_is
    ∙ kinds_still c.args.self.now c.args.events.now c.args.objects.now c.requires.before missed

pub namespaces_after-requires : goal.namespaces_after-requires
namespaces_after-requires c = λ missed.
    ap (λ (h : Holdings). h.namespaces) c.self.view_is
    ∙ namespaces_still c.args.self.now c.args.events.now c.args.objects.now c.requires.before missed

pub params_after-requires : goal.params_after-requires
params_after-requires c =
    subst (λ (qs : List Fitted). All (AreStill c.args.objects.now c.args.events.now) qs)
    (sym (c.as_slice.ensures ∙ ap (λ (h : Holdings). h.params) c.self.view_is))
    (params_still c.args.self.now c.args.events.now c.args.objects.now c.requires.before)

pub returns-clause-params : goal.returns-clause-params
returns-clause-params c =
    all_refitted c.args.objects.now c.as_slice.result.now c.in_ok-params_after.field-0 c.in_ok-params_after.ensures
