use Rattle.std.proofs.Common.{◌≡◌, ◌*◌, ◌^◌, drop, pos, neg_ℤ, ◌+ℤ◌, ◌≤ℤ◌}
use Rattle.std.specs.Option.{option_map}
use Rattle.cel_operators.specs.Operators.{sum_of_ints}
use Rattle.cel_operators.specs.Wants.{wholes_of}
use Rattle.cel_operators_applied.proofs.aggregates.total_of_wholes.Given as goal

abbrev pub invariant-loop-item : goal.invariant-loop-item
invariant-loop-item l = record {
  rest : option_map (λ ns. l.total +ℤ sum_of_ints ns) (wholes_of (drop l.item-index l.items)) ≡ option_map sum_of_ints (wholes_of l.items);
  above : neg_ℤ (pos (2 ^ 63 * l.item-index)) ≤ℤ l.total;
  below : l.total ≤ℤ pos (2 ^ 63 * l.item-index);
}
