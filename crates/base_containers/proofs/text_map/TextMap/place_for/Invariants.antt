use Rattle.std.proofs.Common.{◌≡◌, ◌+◌, drop}
use Rattle.base_containers.specs.Keys.{place_for}
use Rattle.base_containers.proofs.text_map.TextMap.place_for.Given as goal

abbrev pub invariant-loop-entry : goal.invariant-loop-entry
invariant-loop-entry g l = record {
  place : l.place ≡ l.entry-index;
  rest : l.place + place_for l.key (drop l.entry-index l.entry-items) ≡ place_for l.key l.entry-items;
}
