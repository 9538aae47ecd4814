use Rattle.std.proofs.Common.{◌≡◌, ◌++◌, drop}
use Rattle.std.specs.Prelude.{codes}
use Rattle.cel_check.specs.Typing.{slot_from}
use Rattle.cel_check.proofs.selection.variable_slot.Given as goal

-- the slots that are left give the first of the variable
abbrev pub invariant-loop-number : goal.invariant-loop-number
invariant-loop-number l =
    slot_from l.number (codes "variables." ++ l.name) (drop l.number l.slots) ≡ slot_from 0 (codes "variables." ++ l.name) l.slots
