use Rattle.std.proofs.Common.{rules}
use Rattle.cel_operators.proofs.accumulator.Tally.one_more.Goals as goal

pub returns-in-One : goal.returns-in-One
returns-in-One c = search rules
