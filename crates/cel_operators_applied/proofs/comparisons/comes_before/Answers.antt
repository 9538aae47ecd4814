use Rattle.std.proofs.Common.{rules}
use Rattle.cel_operators_applied.proofs.TextOrder.{chars_order}
use Rattle.cel_operators_applied.proofs.comparisons.comes_before.Goals as goal

pub returns : goal.returns
returns c = let h = chars_order c.args.a.now c.args.b.now c.utf8.a c.utf8.b in search rules
