use Rattle.std.proofs.Common.{◌≡◌, drop}
use Rattle.base_containers.specs.Keys.{rises_from}
use Rattle.base_containers.proofs.text_map.rises_from.Given as goal

abbrev pub invariant-loop-entry : goal.invariant-loop-entry
invariant-loop-entry g l = rises_from l.last (drop l.entry-index l.entries) ≡ rises_from l.key l.entries
