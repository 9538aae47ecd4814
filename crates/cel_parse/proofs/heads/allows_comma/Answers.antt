use Rattle.std.proofs.Common.{rules}
use Rattle.cel_parse.proofs.heads.allows_comma.Goals as goal

pub returns-in-Parenthesis : goal.returns-in-Parenthesis
returns-in-Parenthesis c = search rules

pub returns-in-Bracket : goal.returns-in-Bracket
returns-in-Bracket c = search rules
