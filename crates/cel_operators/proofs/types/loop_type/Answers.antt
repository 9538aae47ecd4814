use Rattle.std.proofs.Common.{rules}
use Rattle.cel_operators.proofs.types.loop_type.Goals as goal

pub returns-in_ok-list_of-in-Filter : goal.returns-in_ok-list_of-in-Filter
returns-in_ok-list_of-in-Filter c = search rules

pub returns-in_ok-list_of-in-Map : goal.returns-in_ok-list_of-in-Map
returns-in_ok-list_of-in-Map c = search rules
