use Rattle.std.proofs.Common.{rules}
use Rattle.cel_parse.proofs.macros.lesser.Goals as goal

pub returns-in-Some-Some : goal.returns-in-Some-Some
returns-in-Some-Some c = search rules
