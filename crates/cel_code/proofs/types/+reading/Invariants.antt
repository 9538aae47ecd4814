use Rattle.std.proofs.Common.{◌≡◌, ◌+◌, ◌*◌, ◌-◌, false, None}
use Rattle.base_containers.specs.Keys.{IsInKeyOrder}
use Rattle.cel_code.specs.Reading.{items_at, field_at, type_at}
use Rattle.cel_code.proofs.Loops.{still}
use Rattle.cel_code.proofs.types.+reading.Given as goal

abbrev pub decreases-type_of : goal.decreases-type_of
decreases-type_of l = 5 * l.depth

abbrev pub decreases-type_behind : goal.decreases-type_behind
decreases-type_behind l = 5 * l.depth + 3

abbrev pub decreases-fields_of : goal.decreases-fields_of
decreases-fields_of l = 5 * l.depth + 2

abbrev pub decreases-field_of : goal.decreases-field_of
decreases-field_of l = 5 * l.depth + 1

abbrev pub invariant-fields_of-loop : goal.invariant-fields_of-loop
invariant-fields_of-loop l = record {
  ordered : IsInKeyOrder l.fields.items;
  read : still (field_at (type_at l.depth false)) l.fields.items (l.count - l.counter) l.rest
      ≡ items_at (field_at (type_at l.depth false)) None l.count l.initial.rest;
}

abbrev pub decreases-level_of : goal.decreases-level_of
decreases-level_of l = 5 * l.depth + 4
