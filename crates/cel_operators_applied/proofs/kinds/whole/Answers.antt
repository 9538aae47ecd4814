use Rattle.std.proofs.Common.{rules}
use Rattle.cel_operators_applied.proofs.kinds.whole.Goals as goal

pub returns-in-Ok-Null : goal.returns-in-Ok-Null
returns-in-Ok-Null c = search rules
