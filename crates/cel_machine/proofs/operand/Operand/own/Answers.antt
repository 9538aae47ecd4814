use Rattle.std.proofs.Common.{rules}
use Rattle.cel_machine.proofs.operand.Operand.own.Goals as goal

pub returns : goal.returns
returns c = search rules
