use Rattle.std.proofs.Common.{rules}
use Rattle.cel_lex.proofs.number.signed_piece.Goals as goal

pub returns-in-None : goal.returns-in-None
returns-in-None c = search rules
