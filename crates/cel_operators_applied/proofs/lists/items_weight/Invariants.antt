use Rattle.std.proofs.Common.{◌≡◌, ◌^◌, ◌-◌, ◌+◌, ◌<◌, min, drop}
use Rattle.cel_value.specs.Value.{items_weight_of}
use Rattle.cel_operators_applied.proofs.lists.items_weight.Given as goal

abbrev pub invariant-loop-item : goal.invariant-loop-item
invariant-loop-item l = record {
  fits : l.total < 2 ^ 64;
  rest : min (l.total + items_weight_of (drop l.item-index l.items)) (2 ^ 64 - 1) ≡ min (items_weight_of l.items) (2 ^ 64 - 1);
}
