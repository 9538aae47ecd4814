use Rattle.std.proofs.Common.{rules}
use Rattle.cel_operators_applied.proofs.numbers.unsigned.Goals as goal

pub returns-in-Ok : goal.returns-in-Ok
returns-in-Ok c = search rules
