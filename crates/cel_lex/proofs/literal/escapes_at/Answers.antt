use Rattle.std.proofs.Common.{rules}
use Rattle.cel_lex.proofs.literal.escapes_at.Goals as goal

pub returns-then-not-style : goal.returns-then-not-style
returns-then-not-style c = search rules
