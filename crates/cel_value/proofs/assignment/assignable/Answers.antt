use Rattle.std.proofs.Common.{sym, ◌∙◌}
use Rattle.cel_value.proofs.Lengths.{greatest_length_of-le}
use Rattle.cel_value.proofs.Soundness.{IsWithin-from_assignable}
use Rattle.cel_value.proofs.assignment.assignable.Goals as goal

pub returns-clause-sound : goal.returns-clause-sound
returns-clause-sound c = λ h v k. (IsWithin-from_assignable c.args.to.now c.args.from.now (sym c.takes.ensures ∙ h)).1 v k

pub returns-clause-limits : goal.returns-clause-limits
returns-clause-limits c = λ h. (IsWithin-from_assignable c.args.to.now c.args.from.now (sym c.takes.ensures ∙ h)).0

pub returns-clause-lengths : goal.returns-clause-lengths
returns-clause-lengths c = λ h. greatest_length_of-le c.args.to.now c.args.from.now (sym c.takes.ensures ∙ h)
