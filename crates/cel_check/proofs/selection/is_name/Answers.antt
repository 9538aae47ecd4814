use Rattle.std.proofs.Common.{rules}
use Rattle.cel_check.proofs.selection.is_name.Goals as goal

pub returns-in-Name : goal.returns-in-Name
returns-in-Name c = search rules
