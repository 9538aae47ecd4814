use Rattle.std.proofs.Common.{◌≡◌, drop}
use Rattle.std.specs.List.{list_any}
use Rattle.cel_value.specs.Value.{same}
use Rattle.cel_operators_applied.proofs.lists.is_in.Given as goal

abbrev pub invariant-loop-item : goal.invariant-loop-item
invariant-loop-item l = list_any (same l.v) (drop l.item-index l.items) ≡ list_any (same l.v) l.items
