use Rattle.std.proofs.Common.{◌≡◌, drop}
use Rattle.serde_json.specs.View.{items_view}
use Rattle.vap_match.specs.Forms.{all_items}
use Rattle.vap_read.specs.PolicyForm.{has_both}
use Rattle.vap_read.proofs.policy_form.each_has_both.Given as goal

abbrev pub invariant-loop-item : goal.invariant-loop-item
invariant-loop-item l =
    all_items (has_both l.first l.second) (items_view (drop l.item-index l.items))
    ≡ all_items (has_both l.first l.second) (items_view l.items)
