use Rattle.std.proofs.Common.{◌≡◌, true, ◌∙◌, ap, subst}
use Rattle.std.proofs.lemmas.Result.{IfOk-weaker}
use Rattle.std.specs.Prelude.{IfOk}
use Rattle.cel_value.specs.CelType.{fits}
use Rattle.cel_value.specs.declared.value.Value.{Value}
use Rattle.vap_match.specs.declared.request.Admission.{Admission}
use Rattle.vap_policy_programs.specs.RequestType.{request_type}
use Rattle.vap_policy_programs.specs.RequestValue.{request_value}
use Rattle.vap_policy_programs.proofs.RequestFits.{request_fits}
use Rattle.vap_policy_programs.proofs.values.request_value.Goals as goal

pub returns-clause-exact : goal.returns-clause-exact
returns-clause-exact c =
    subst (λ (r : Admission). IfOk c.value_of.result (λ v. v ≡ request_value r)) c.admission.ensures.exact c.value_of.ensures

pub returns-clause-fits : goal.returns-clause-fits
returns-clause-fits c =
    IfOk-weaker c.value_of.result (λ v. v ≡ request_value c.admission.result.now) (λ v. fits v request_type ≡ true)
    (λ v is. ap (λ (w : Value). fits w request_type) is ∙ request_fits c.admission.result.now c.admission.ensures.within)
    c.value_of.ensures
