use Rattle.std.proofs.Common.{◌≡◌, ◌++◌, drop}
use Rattle.base_containers.specs.Gathered.{items_of}
use Rattle.vap_match.specs.Parts.{each_item, text_of}
use Rattle.vap_match.proofs.texts.texts_of.Given as goal

abbrev pub invariant-loop-item : goal.invariant-loop-item
invariant-loop-item l =
    l.texts.items ++ each_item text_of (items_of (drop l.item-index l.items))
    ≡ each_item text_of (items_of l.items)
