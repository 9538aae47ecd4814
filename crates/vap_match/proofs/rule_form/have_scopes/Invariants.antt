use Rattle.std.proofs.Common.{◌≡◌, drop}
use Rattle.serde_json.specs.View.{items_view}
use Rattle.vap_match.specs.Forms.{all_items}
use Rattle.vap_match.specs.RuleForm.{has_scope}
use Rattle.vap_match.proofs.rule_form.have_scopes.Given as goal

abbrev pub invariant-loop-item : goal.invariant-loop-item
invariant-loop-item l = all_items has_scope (items_view (drop l.item-index l.items)) ≡ all_items has_scope (items_view l.items)
