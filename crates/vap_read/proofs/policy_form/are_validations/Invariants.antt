use Rattle.std.proofs.Common.{◌≡◌, drop}
use Rattle.serde_json.specs.View.{items_view}
use Rattle.vap_match.specs.Forms.{all_items}
use Rattle.vap_read.specs.PolicyForm.{is_validation}
use Rattle.vap_read.proofs.policy_form.are_validations.Given as goal

abbrev pub invariant-loop-item : goal.invariant-loop-item
invariant-loop-item l =
    all_items is_validation (items_view (drop l.item-index l.items))
    ≡ all_items is_validation (items_view l.items)
