use Rattle.std.proofs.Common.{◌≡◌, ◌++◌, drop}
use Rattle.serde_json.specs.View.{items_view}
use Rattle.vap_match.specs.Parts.{each_item}
use Rattle.vap_match.specs.SelectorForm.{requirement_of}
use Rattle.vap_match.proofs.selector_form.requirements_of.Given as goal

abbrev pub invariant-loop-item : goal.invariant-loop-item
invariant-loop-item l =
    l.requirements.items ++ each_item requirement_of (items_view (drop l.item-index l.items))
    ≡ each_item requirement_of (items_view l.items)
