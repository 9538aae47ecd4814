use Rattle.std.proofs.Common.{◌≡◌, drop}
use Rattle.serde_json.specs.View.{items_view}
use Rattle.vap_match.specs.Forms.{all_items}
use Rattle.vap_match.specs.SelectorForm.{is_requirement}
use Rattle.vap_match.proofs.selector_form.are_requirements.Given as goal

abbrev pub invariant-loop-item : goal.invariant-loop-item
invariant-loop-item l =
    all_items is_requirement (items_view (drop l.item-index l.items))
    ≡ all_items is_requirement (items_view l.items)
