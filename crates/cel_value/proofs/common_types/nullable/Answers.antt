use Rattle.std.proofs.Common.{rules}
use Rattle.cel_value.proofs.common_types.nullable.Goals as goal

pub returns-in_ok-new-in-Some : goal.returns-in_ok-new-in-Some
returns-in_ok-new-in-Some c = search rules
