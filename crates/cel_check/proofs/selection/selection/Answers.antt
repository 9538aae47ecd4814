use Rattle.std.proofs.Common.{rules}
use Rattle.cel_check.proofs.selection.selection.Goals as goal

pub returns-in-None : goal.returns-in-None
returns-in-None c = search rules

pub returns-in_ok-name-in-Some : goal.returns-in_ok-name-in-Some
returns-in_ok-name-in-Some c = search rules
