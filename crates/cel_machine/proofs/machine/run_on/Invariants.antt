use Rattle.std.proofs.Common.{◌≡◌, ◌+◌, ◌-◌, []}
use Rattle.cel_code.specs.Machine.{Gets, on}
use Rattle.cel_verify.specs.Depths.{greatest_depth}
use Rattle.cel_verify.proofs.ToGo.{path_steps}
use Rattle.cel_machine.proofs.machine.run_on.Given as goal

abbrev pub invariant-loop-instr : goal.invariant-loop-instr
invariant-loop-instr l =
    Gets l.image l.slots (on 0 [] []) (on l.position.at l.stack.items l.frames) l.charged l.steps
    × (l.stack.room ≡ greatest_depth l.image + 1)

abbrev pub decreases-loop-instr : goal.decreases-loop-instr
decreases-loop-instr l = path_steps l.image - l.steps
