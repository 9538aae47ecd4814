use Rattle.std.proofs.Common.{◌≡◌, drop}
use Rattle.serde_json.specs.View.{items_view}
use Rattle.base_containers.proofs.Gathers.{before}
use Rattle.base_containers.proofs.contents.items_in_tree.Given as goal

abbrev pub invariant-loop-item : goal.invariant-loop-item
invariant-loop-item l = items_view l.items ≡ before l.found.items (items_view (drop l.item-index l.items))
