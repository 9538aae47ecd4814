use Rattle.std.proofs.Common.{rules}
use Rattle.cel_parse.proofs.heads.looseness_of.Goals as goal

pub returns-in-Infix-Less : goal.returns-in-Infix-Less
returns-in-Infix-Less c = search rules

pub returns-in-Infix-Add : goal.returns-in-Infix-Add
returns-in-Infix-Add c = search rules
