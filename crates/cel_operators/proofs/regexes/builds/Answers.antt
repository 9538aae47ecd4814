use Rattle.std.proofs.Common.{rules}
use Rattle.cel_operators.proofs.regexes.builds.Goals as goal

pub returns-in-Err : goal.returns-in-Err
returns-in-Err c = search rules
