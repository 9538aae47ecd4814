use Rattle.std.proofs.Common.{rules}
use Rattle.cel_lex.proofs.bytes.ends_line.Goals as goal

pub returns-else-c-eq10 : goal.returns-else-c-eq10
returns-else-c-eq10 c = search rules
