use Rattle.std.proofs.Common.{ap, ◌∙◌}
use Rattle.vap_match.specs.Select.{lent_labels}
use Rattle.vap_match.specs.declared.request.Admission.{Admission}
use Rattle.vap_policy_set.specs.Sets.{policies_of}
use Rattle.vap_policy.proofs.Skipped.{enough_at}
use Rattle.vap_policy.proofs.matched.matched_in.Goals as goal

-- all that match are among those that are lent
pub returns-clause-matched : goal.returns-clause-matched
returns-clause-matched c =
    let asked = c.admission.ensures.exact in
    c.from_first.ensures.matched
    ∙ enough_at c.args.request.now.request.now.admission (lent_labels c.args.labels.now) c.as_str-group.result.now c.as_str-name.result.now
    (policies_of c.args.set.now) c.policies_on-policies.result.now
    (c.as_str-group.ensures ∙ ap (λ (r : Admission). r.resource.group) asked)
    (c.as_str-name.ensures ∙ ap (λ (r : Admission). r.resource.resource) asked)
    c.policies_on-policies.ensures.enough

pub returns-clause-ready : goal.returns-clause-ready
returns-clause-ready c = λ kind is. c.from_first.ensures.ready c.args.set.now kind (c.policies_on-policies.ensures.ready kind is)
