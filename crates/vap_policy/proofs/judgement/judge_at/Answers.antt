use Rattle.std.proofs.Common.{◌≡◌, [], Option, Ok, IfOk, sym, ap, ◌∙◌, subst}
use Rattle.cel_value.specs.declared.cel_type.CelType.{CelType}
use Rattle.std.specs.List.{All}
use Rattle.std.specs.Option.{option_copied}
use Rattle.vap_match.specs.Select.{Labels, lent_labels}
use Rattle.vap_match.specs.declared.request.Admission.{Admission}
use Rattle.vap_read.specs.declared.object.Object.{Object}
use Rattle.vap_policy_programs.specs.Held.{held_at}
use Rattle.vap_policy_set.specs.Ready.{IsOneOf, IsReadyAt, type_at}
use Rattle.vap_policy_set.specs.Sets.{kinds_of, namespace_in, policies_of}
use Rattle.vap_policy.specs.Evaluations.{found_by}
use Rattle.vap_policy.specs.Judging.{Case, asked_of, case_with, evaluations_of, of_policies, verdict_by, verdict_with}
use Rattle.vap_policy.specs.Matched.{matched_by}
use Rattle.vap_policy.specs.RequestPatterns.{OneMayMatch}
use Rattle.vap_policy.proofs.Named.{kind_first}
use Rattle.vap_policy.proofs.Skipped.{labels_are, matched_asked, none_left}
use Rattle.vap_policy.proofs.judgement.judge_at.Goals as goal

-- if none is left that may match, none of the set does
pub judge_unmatched-requires : goal.judge_unmatched-requires
judge_unmatched-requires c =
    let h = c.args.set.now in
    let r = c.args.request.now.request.now.admission in
    let labels = lent_labels c.labels_in-labels.result in
    subst (λ (held : Labels). matched_by r held (policies_of h) ≡ [])
    (labels_are h r c.admission.result.now c.as_str-name.result.now (option_copied c.in_ok-namespace.namespace) labels c.as_str-name.ensures
    c.admission.ensures.exact c.in_ok-namespace.ensures c.labels_in-labels.ensures)
    (
    sym c.matched_in-policies.ensures.matched
    ∙ ap (matched_by r labels) (none_left c.is_empty.result c.matched_in-policies.result.now c.is_empty.ensures c.if-is_empty.true)
    )

-- those that are left have all evaluations
pub judge_case-requires-clause-asked : goal.judge_case-requires-clause-asked
judge_case-requires-clause-asked c =
    let h = c.args.set.now in
    let r = c.args.request.now.request.now.admission in
    let ps = c.matched_in-policies.result.now in
    let held =
    labels_are h r c.admission.result.now c.as_str-name.result.now (option_copied c.in_ok-namespace.namespace)
    (lent_labels c.labels_in-labels.result) c.as_str-name.ensures c.admission.ensures.exact c.in_ok-namespace.ensures
    c.labels_in-labels.ensures in
    subst (λ (k : Case). of_policies k ps ≡ asked_of k) (sym c.new-case.ensures.is)
    (
    matched_asked (case_with h r (option_copied c.args.kind) c.in-Ok-Ok.held) (policies_of h) ps
    (subst (λ (x : Labels). matched_by r x ps ≡ matched_by r x (policies_of h)) held c.matched_in-policies.ensures.matched)
    )

-- they are ready at the kind of the request
pub judge_case-requires-clause-ready : goal.judge_case-requires-clause-ready
judge_case-requires-clause-ready c =
    let h = c.args.set.now in
    let r = c.args.request.now.request.now.admission in
    let first = subst (IsOneOf (kinds_of h)) (sym c.requires) (kind_first (kinds_of h) r) in
    subst (λ (k : Case). All (IsReadyAt k.set k.kind) c.matched_in-policies.result.now) (sym c.new-case.ensures.is)
    (c.matched_in-policies.ensures.ready (option_copied c.args.kind) first)

-- what the names hold is what the definition says
abbrev held_is : (c : goal.Joined-opaque)
    → held_at (namespace_in c.args.request.now.request.now.admission.namespace c.args.set.now) (type_at (option_copied c.args.kind))
    c.args.request.now.request.now.admission ≡ Ok c.in-Ok-Ok.held
held_is c =
    let r = c.args.request.now.request.now.admission in
    let name = c.as_str-name.ensures ∙ ap (λ (a : Admission). a.namespace) c.admission.ensures.exact in
    let namespace = c.in_ok-namespace.ensures ∙ ap (λ n. namespace_in n c.args.set.now) name in
    ap (λ (n : Option Object). held_at n (type_at (option_copied c.args.kind)) r) (sym namespace)
    ∙ ap (λ (t : CelType). held_at (option_copied c.in_ok-namespace.namespace) t r) (sym c.type_at-cel_type.ensures)
    ∙ sym c.in-Ok-Ok.ensures.exact
    ∙ c.in-Ok-Ok.field-0-is

pub returns-in-Ok-Ok-clause-pattern : goal.returns-in-Ok-Ok-clause-pattern
returns-in-Ok-Ok-clause-pattern c = λ is. record {
  held = c.in-Ok-Ok.held;
  fits = held_is c;
  one = subst (λ k. OneMayMatch (evaluations_of k)) c.new-case.ensures.is (c.judge_case.ensures.pattern is);
}

pub returns-in-Ok-Ok-clause-verdict : goal.returns-in-Ok-Ok-clause-verdict
returns-in-Ok-Ok-clause-verdict c =
    let h = c.args.set.now in
    let r = c.args.request.now.request.now.admission in
    let kind = option_copied c.args.kind in
    subst (λ held. IfOk c.judge_case.result (λ verdict. verdict ≡ verdict_with h r kind held)) (sym (held_is c))
    (
    subst (λ (k : Case). IfOk c.judge_case.result (λ verdict. verdict ≡ verdict_by k.set.events (found_by (evaluations_of k))))
    c.new-case.ensures.is c.judge_case.ensures.verdict
    )
