use Rattle.std.proofs.Common.{rules}
use Rattle.cel_parse.proofs.heads.lone_at.Goals as goal

pub returns-in-Some : goal.returns-in-Some
returns-in-Some c = search rules
