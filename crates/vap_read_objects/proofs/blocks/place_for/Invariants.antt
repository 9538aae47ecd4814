use Rattle.std.proofs.Common.{◌≡◌, ◌+◌, drop}
use Rattle.vap_read_objects.specs.Tables.{place_for}
use Rattle.vap_read_objects.proofs.blocks.place_for.Given as goal

abbrev pub invariant-loop-entry : goal.invariant-loop-entry
invariant-loop-entry g l = record {
  place : l.place ≡ l.entry-index;
  rest : l.place + place_for l.key (drop l.entry-index l.entries) ≡ place_for l.key l.entries;
}
