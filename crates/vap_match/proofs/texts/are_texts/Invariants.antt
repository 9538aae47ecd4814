use Rattle.std.proofs.Common.{◌≡◌, drop}
use Rattle.base_containers.specs.Gathered.{items_of}
use Rattle.vap_match.specs.Forms.{all_items, is_text}
use Rattle.vap_match.proofs.texts.are_texts.Given as goal

abbrev pub invariant-loop-item : goal.invariant-loop-item
invariant-loop-item l = all_items is_text (items_of (drop l.item-index l.items)) ≡ all_items is_text (items_of l.items)
