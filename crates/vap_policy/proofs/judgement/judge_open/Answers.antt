use Rattle.std.proofs.Common.{List, sym, ap, ◌∙◌, subst}
use Rattle.vap_read_objects.specs.declared.kind.Kind.{Kind}
use Rattle.vap_match.specs.declared.request.Admission.{Admission}
use Rattle.vap_policy_set.specs.Sets.{kinds_of}
use Rattle.vap_policy.proofs.Named.{kind_first}
use Rattle.vap_policy.proofs.PassedOver.{none_passed_over}
use Rattle.vap_policy.proofs.Priced.{set_priced}
use Rattle.vap_policy.specs.RequestPatterns.{KindMayMatch}
use Rattle.vap_policy.specs.Places.{is_exempt, kind_at}
use Rattle.vap_policy.proofs.judgement.judge_open.Goals as goal

pub returns-in_err-without_evaluation-clause-none_passed_over : goal.returns-in_err-without_evaluation-clause-none_passed_over
returns-in_err-without_evaluation-clause-none_passed_over c =
    none_passed_over c.args.set.now c.kinds-kinds.ensures.source c.args.request.now.request.now.admission

pub returns-then-is_exempt-clause-none_passed_over : goal.returns-then-is_exempt-clause-none_passed_over
returns-then-is_exempt-clause-none_passed_over c =
    none_passed_over c.args.set.now c.kinds-kinds.ensures.source c.args.request.now.request.now.admission

pub returns-clause-none_passed_over : goal.returns-clause-none_passed_over
returns-clause-none_passed_over c = none_passed_over c.args.set.now c.kinds-kinds.ensures.source c.args.request.now.request.now.admission

pub returns-in_err-without_evaluation-clause-priced : goal.returns-in_err-without_evaluation-clause-priced
returns-in_err-without_evaluation-clause-priced c =
    let b = c.args.set.now in
    let r = c.args.request.now.request.now.admission in
    set_priced b c.kinds-kinds.ensures.source (kind_at (kinds_of b) r) (kind_first (kinds_of b) r)

pub returns-then-is_exempt-clause-priced : goal.returns-then-is_exempt-clause-priced
returns-then-is_exempt-clause-priced c =
    let b = c.args.set.now in
    let r = c.args.request.now.request.now.admission in
    set_priced b c.kinds-kinds.ensures.source (kind_at (kinds_of b) r) (kind_first (kinds_of b) r)

pub returns-clause-priced : goal.returns-clause-priced
returns-clause-priced c =
    let b = c.args.set.now in
    let r = c.args.request.now.request.now.admission in
    set_priced b c.kinds-kinds.ensures.source (kind_at (kinds_of b) r) (kind_first (kinds_of b) r)

pub returns-clause-pattern : goal.returns-clause-pattern
returns-clause-pattern c = λ is.
    let b = c.args.set.now in
    let asked = c.admission-admission.ensures.exact in
    record {
      judged = ap (λ (r : Admission). is_exempt r.resource) (sym asked) ∙ (sym c.is_exempt.ensures ∙ c.if-is_exempt.false);
      one =
          subst (KindMayMatch b c.args.request.now.request.now.admission)
          (c.kind_at-kind.ensures ∙ (ap (λ (ks : List Kind). kind_at ks c.admission-admission.result.now) c.kinds-kinds.ensures.exact
          ∙ ap (λ (r : Admission). kind_at (kinds_of b) r) asked))
          (c.judge_at.ensures.pattern is);
    }
