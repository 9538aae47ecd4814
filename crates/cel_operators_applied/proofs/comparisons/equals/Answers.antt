use Rattle.std.proofs.Common.{rules}
use Rattle.cel_operators_applied.proofs.comparisons.equals.Goals as goal

pub returns-in-NotEqual : goal.returns-in-NotEqual
returns-in-NotEqual c = search rules
