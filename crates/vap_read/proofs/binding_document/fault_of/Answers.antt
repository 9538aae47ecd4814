use Rattle.std.proofs.Common.{◌≡◌, ◌∙◌, false, refl, rules}
use Rattle.std.specs.Prelude.{not, codes}
use Rattle.serde_json.specs.Find.{get}
use Rattle.serde_json.specs.View.{view}
use Rattle.vap_match.specs.Forms.{absent_or}
use Rattle.vap_read.proofs.LeastPolicyFault.{rules_at_last, least_if_found}
use Rattle.vap_read.specs.BindingForm.{applies, is_formed, denies_and_warns, does_refer}
use Rattle.vap_read.proofs.binding_document.fault_of.Goals as goal

pub returns-else-not-may_refer-clause-exact : goal.returns-else-not-may_refer-clause-exact
returns-else-not-may_refer-clause-exact c =
    let formed : not (is_formed (view c.args.json.now)) ≡ false = search rules in
    let one : denies_and_warns (view c.args.json.now) ≡ false = search rules in
    let refers : not (absent_or does_refer (get (codes "paramRef") (view c.args.json.now))) ≡ false = search rules in
    c.fault_of_rules.ensures ∙ rules_at_last (applies (view c.args.json.now)) formed one refl refl refers refl

pub returns-else-not-may_refer-clause-least : goal.returns-else-not-may_refer-clause-least
returns-else-not-may_refer-clause-least c =
    least_if_found (applies (view c.args.json.now)) c.fault_of_rules.result (returns-else-not-may_refer-clause-exact c)
