use Rattle.std.proofs.Common.{◌≡◌, ◌++◌, take, drop}
use Rattle.base_containers.specs.Keys.{without}
use Rattle.base_containers.proofs.text_map.TextMap.place_of.Given as goal

abbrev pub invariant-loop-place : goal.invariant-loop-place
invariant-loop-place g l = take l.place l.self ++ without l.name (drop l.place l.self) ≡ without l.name l.self
