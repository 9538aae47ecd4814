use Rattle.std.proofs.Common.{◌≡◌, drop}
use Rattle.serde_json.specs.View.{items_view}
use Rattle.vap_match.specs.Forms.{all_items, is_text}
use Rattle.vap_match.proofs.forms.are_texts.Given as goal

abbrev pub invariant-loop-item : goal.invariant-loop-item
invariant-loop-item l = all_items is_text (items_view (drop l.item-index l.items)) ≡ all_items is_text (items_view l.items)
