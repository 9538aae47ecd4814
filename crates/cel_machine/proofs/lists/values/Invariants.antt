use Rattle.std.proofs.Common.{◌≡◌, length}
use Rattle.cel_operators.specs.Lists.{values_in}
use Rattle.cel_machine.proofs.Values.{behind_values}
use Rattle.cel_machine.proofs.lists.values.Given as goal

-- what there is, and what the items that are left give
abbrev pub invariant-loop-item : goal.invariant-loop-item
invariant-loop-item l = behind_values l.values.items (values_in l.items.items) ≡ values_in l.initial.items.items

abbrev pub decreases-loop-item : goal.decreases-loop-item
decreases-loop-item l = length l.items.items
