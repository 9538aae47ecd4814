use Rattle.std.proofs.Common.{◌≡◌, drop}
use Rattle.cel_operators.specs.Outcomes.{slots_fit}
use Rattle.cel_machine.proofs.slots.each_fits.Given as goal

-- what the slots that are left hold decides
abbrev pub invariant-loop-number : goal.invariant-loop-number
invariant-loop-number l = slots_fit (drop l.number l.types) (drop l.number l.slots) ≡ slots_fit l.types l.slots
