use Rattle.std.proofs.Common.{◌≡◌, ◌+◌, ◌*◌, ◌^◌, ◌≤◌, drop, sum}
use Rattle.std.specs.Option.{option_map}
use Rattle.cel_operators.specs.Wants.{naturals_of}
use Rattle.cel_operators_applied.proofs.aggregates.total_of_naturals.Given as goal

abbrev pub invariant-loop-item : goal.invariant-loop-item
invariant-loop-item l = record {
  rest : option_map (λ ns. l.total + sum ns) (naturals_of (drop l.item-index l.items)) ≡ option_map sum (naturals_of l.items);
  below : l.total ≤ 2 ^ 64 * l.item-index;
}
