use Rattle.std.proofs.Common.{◌≡◌, Some, None, codes, ap, sym, subst, unwrap_or, ◌∙◌}
use Rattle.serde_json.specs.Data.{Data, null}
use Rattle.serde_json.specs.Find.{get}
use Rattle.base_containers.specs.Texts.{data_in}
use Rattle.vap_match.specs.Faults.{least_fault}
use Rattle.vap_match.specs.RequestReading.{admission_from}
use Rattle.vap_match.specs.Within.{IsWithin}
use Rattle.vap_match.proofs.Within.{read_within}
use Rattle.vap_match.proofs.review.request_of.Goals as goal

pub invariant_of-result : goal.invariant_of-result
invariant_of-result c =
    let text = c.args.text.now in
    let review = c.in_ok-document.document in
    let is = c.in_ok-document.ensures in
    let same : data_in text ≡ review = ap (λ r. unwrap_or r null) is in
    let whole = subst (λ (d : Data). least_fault d ≡ None) same c.requires.whole in
    let asked = subst (λ (d : Data). get (codes "request") d ≡ Some c.args.members.now.request) same c.requires.asked in
    let named = ap (λ r. unwrap_or r review) asked in
    let made = c.in_ok-admission.ensures ∙ ap (λ (d : Data). admission_from review d) (sym named) in
    subst IsWithin (sym (c.in_ok-new.ensures ∙ made)) (read_within text review c.utf8.text is whole)
