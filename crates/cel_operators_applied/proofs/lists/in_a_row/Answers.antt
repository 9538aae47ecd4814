use Rattle.std.proofs.Common.{rules}
use Rattle.cel_operators_applied.proofs.lists.in_a_row.Goals as goal

pub returns : goal.returns
returns c = search rules
