use Rattle.std.proofs.Common.{◌≡◌, ◌+◌, drop}
use Rattle.base_containers.specs.Keys.{place_for}
use Rattle.vap_read_objects.proofs.by_name.place_for.Given as goal

abbrev pub invariant-loop-entry : goal.invariant-loop-entry
invariant-loop-entry g l = record {
  place : l.place ≡ l.entry-index;
  rest : l.place + place_for l.name (drop l.entry-index l.entries) ≡ place_for l.name l.entries;
}
