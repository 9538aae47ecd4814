use Rattle.std.proofs.Common.{◌≡◌, ◌∙◌, false, refl, rules}
use Rattle.std.specs.Prelude.{not, codes}
use Rattle.serde_json.specs.View.{view}
use Rattle.vap_match.specs.Forms.{all_items}
use Rattle.vap_read.specs.PolicyForm.{applies, is_formed, has_few, has_message, has_distinct_names, list_in}
use Rattle.vap_read.proofs.LeastPolicyFault.{rules_at_last, least_if_found}
use Rattle.vap_read.proofs.policy_document.fault_of.Goals as goal

pub returns-else-not-has_distinct_names-clause-exact :
    goal.returns-else-not-has_distinct_names-clause-exact
returns-else-not-has_distinct_names-clause-exact c =
    let formed : not (is_formed (view c.args.json.now)) ≡ false = search rules in
    let few : not (has_few (view c.args.json.now)) ≡ false = search rules in
    let said : not (all_items has_message (list_in (codes "validations") (view c.args.json.now))) ≡ false = search rules in
    let distinct : not (has_distinct_names (view c.args.json.now)) ≡ false = search rules in
    c.fault_of_rules.ensures ∙ rules_at_last (applies (view c.args.json.now)) formed refl few said refl distinct

pub returns-else-not-has_distinct_names-clause-least :
    goal.returns-else-not-has_distinct_names-clause-least
returns-else-not-has_distinct_names-clause-least c =
    least_if_found (applies (view c.args.json.now)) c.fault_of_rules.result (returns-else-not-has_distinct_names-clause-exact c)
