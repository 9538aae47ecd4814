use Rattle.std.proofs.Common.{◌≡◌, ◌^◌, ◌-◌, ◌+◌, ◌<◌, min, drop}
use Rattle.cel_operators.specs.Maps.{entries_charge}
use Rattle.cel_operators_applied.proofs.maps.entries_charge.Given as goal

abbrev pub invariant-loop-entry : goal.invariant-loop-entry
invariant-loop-entry l = record {
  fits : l.charge < 2 ^ 64;
  rest : min (l.charge + entries_charge (drop l.entry-index l.entries)) (2 ^ 64 - 1) ≡ min (entries_charge l.entries) (2 ^ 64 - 1);
}
