use Rattle.std.proofs.Common.{sym}
use Rattle.cel_verify.proofs.Openings.{no_range}
use Rattle.cel_verify.proofs.loops.range_taken.Goals as goal

pub returns-in-Ok-Some : goal.returns-in-Ok-Some
returns-in-Ok-Some c =
    record { top = c.in-Some.range; is = c.in-Some.ensures; ranged = sym (rw c.in-Ok-Some.field-0-is at c.in-Ok-Some.ensures) }

pub returns-in-Ok-None : goal.returns-in-Ok-None
returns-in-Ok-None c = λ mode entry.
    no_range mode entry c.args.types.now c.pop.new.self c.in-Some.range c.in-Some.ensures
    (sym (rw c.in-Ok-None.field-0-is at c.in-Ok-None.ensures))
