use Rattle.std.proofs.Common.{rules}
use Rattle.cel_operators_applied.proofs.lists.value_of_map.Goals as goal

pub returns-in_ok-value-in-Ok : goal.returns-in_ok-value-in-Ok
returns-in_ok-value-in-Ok c = search rules
