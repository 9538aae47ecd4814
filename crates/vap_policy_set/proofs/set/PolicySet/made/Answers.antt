use Rattle.std.proofs.Common.{List, ap, ◌∙◌}
use Rattle.base_containers.specs.declared.text.Keyed.{Keyed}
use Rattle.vap_read_objects.specs.declared.kind.Kind.{Kind}
use Rattle.vap_read_objects.specs.Listed.{kinds_in}
use Rattle.vap_read.specs.declared.policy.Policy.{Policy}
use Rattle.vap_read_objects.specs.Fitted.{all_params}
use Rattle.vap_policy_set.specs.declared.definitions.Definitions.{Definitions}
use Rattle.vap_policy_set.proofs.MadeSets.{rules_chosen, rules_made}
use Rattle.vap_policy_set.proofs.set.PolicySet.made.Goals as goal

pub invariant_of-result : goal.invariant_of-result
invariant_of-result c =
    let objects = c.args.objects.now in
    let kinds = c.as_slice-kinds.ensures ∙ ap (λ (d : Definitions). d.kinds) c.get.ensures ∙ c.requires.kinds in
    let named = c.as_slice.ensures ∙ c.in_ok-named.ensures.exact in
    let params = c.params.view_is ∙ c.in_ok-params.ensures
    ∙ ap (λ (x : List Kind). all_params x objects c.as_slice.result.now) kinds
    ∙ ap (λ (x : List (Keyed Policy)). all_params (kinds_in objects.objects) objects x) named in
    let rules = c.in_ok-rules.ensures in (
      record {
        objects = objects;
        is = rules_made objects c.in_ok-rules-2.rules c.in_ok-rules.rules c.in_ok-rules-2.ensures rules.kinds rules.policies
            c.events-events.ensures.exact params (c.in_ok-share.ensures ∙ c.requires.namespaces);
      },
      rules_chosen objects c.in_ok-rules-2.rules c.in_ok-rules.rules c.in_ok-rules-2.ensures rules.policies rules.choice,
    )

pub returns-clause-is : goal.returns-clause-is
returns-clause-is c =
    let objects = c.args.objects.now in
    let kinds = c.as_slice-kinds.ensures ∙ ap (λ (d : Definitions). d.kinds) c.get.ensures ∙ c.requires.kinds in
    let named = c.as_slice.ensures ∙ c.in_ok-named.ensures.exact in
    let params = c.params.view_is ∙ c.in_ok-params.ensures
    ∙ ap (λ (x : List Kind). all_params x objects c.as_slice.result.now) kinds
    ∙ ap (λ (x : List (Keyed Policy)). all_params (kinds_in objects.objects) objects x) named in
    let rules = c.in_ok-rules.ensures in
    rules_made objects c.in_ok-rules-2.rules c.in_ok-rules.rules c.in_ok-rules-2.ensures rules.kinds rules.policies
    c.events-events.ensures.exact params (c.in_ok-share.ensures ∙ c.requires.namespaces)
