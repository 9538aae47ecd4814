use Rattle.std.proofs.Common.{rules}
use Rattle.cel_lex.proofs.escape.character.Goals as goal

pub returns : goal.returns
returns c = search rules
