use Rattle.std.proofs.Common.{◌≡◌, drop}
use Rattle.serde_json.specs.View.{items_view}
use Rattle.vap_match.specs.Forms.{all_items}
use Rattle.vap_read.specs.BindingForm.{is_action}
use Rattle.vap_read.proofs.binding_form.are_actions.Given as goal

abbrev pub invariant-loop-item : goal.invariant-loop-item
invariant-loop-item l =
    all_items is_action (items_view (drop l.item-index l.items))
    ≡ all_items is_action (items_view l.items)
