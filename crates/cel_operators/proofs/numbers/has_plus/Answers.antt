use Rattle.std.proofs.Common.{rules}
use Rattle.cel_operators.proofs.numbers.has_plus.Goals as goal

pub returns : goal.returns
returns c = search rules
