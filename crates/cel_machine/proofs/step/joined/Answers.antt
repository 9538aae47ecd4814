use Rattle.std.proofs.Common.{rules}
use Rattle.cel_machine.proofs.step.joined.Goals as goal

pub returns : goal.returns
returns c = search rules
