use Rattle.std.proofs.Common.{◌≡◌, drop}
use Rattle.base_containers.specs.Keys.{value_under}
use Rattle.base_containers.proofs.text_map.TextMap.get.Given as goal

abbrev pub invariant-loop-entry : goal.invariant-loop-entry
invariant-loop-entry g l = value_under l.key (drop l.entry-index l.entry-items) ≡ value_under l.key l.entry-items
