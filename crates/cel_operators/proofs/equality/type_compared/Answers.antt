use Rattle.std.proofs.Common.{rules}
use Rattle.cel_operators.proofs.equality.type_compared.Goals as goal

pub returns-then-is_all_plain : goal.returns-then-is_all_plain
returns-then-is_all_plain c = search rules
