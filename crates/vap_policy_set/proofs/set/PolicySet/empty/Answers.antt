use Rattle.std.proofs.Common.{ap, ◌∙◌}
use Rattle.vap_policy_set.specs.declared.rules.Rules.{Rules}
use Rattle.vap_policy_set.proofs.MadeSets.{nothing_chosen, nothing_held, nothing_made}
use Rattle.vap_policy_set.proofs.set.PolicySet.empty.Goals as goal

pub invariant_of-result : goal.invariant_of-result
invariant_of-result c =
    let choice_is = ap (λ (r : Rules). r.choice) c.in_ok-rules.ensures ∙ c.in_ok-empty.ensures.choice in
    let kinds_are = ap (λ (r : Rules). r.definitions.kinds) c.in_ok-rules.ensures ∙ c.in_ok-empty.ensures.kinds in
    let no_policies = ap (λ (r : Rules). r.policies) c.in_ok-rules.ensures ∙ c.in_ok-empty.ensures.policies in (
      nothing_held c.in_ok-rules.rules kinds_are no_policies (c.from_vec.ensures ∙ c.new-4.ensures.items)
          (c.in_ok-namespaces.ensures ∙ c.new-2.ensures),
      nothing_chosen c.in_ok-rules.rules.choice no_policies choice_is,
    )

pub returns : goal.returns
returns c =
    let choice_is = ap (λ (r : Rules). r.choice) c.in_ok-rules.ensures ∙ c.in_ok-empty.ensures.choice in
    let kinds_are = ap (λ (r : Rules). r.definitions.kinds) c.in_ok-rules.ensures ∙ c.in_ok-empty.ensures.kinds in
    let no_policies = ap (λ (r : Rules). r.policies) c.in_ok-rules.ensures ∙ c.in_ok-empty.ensures.policies in
    nothing_made c.in_ok-rules.rules choice_is kinds_are no_policies (c.from_vec.ensures ∙ c.new-4.ensures.items)
    (c.in_ok-namespaces.ensures ∙ c.new-2.ensures)
