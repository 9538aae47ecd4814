use Rattle.std.proofs.Common.{rules}
use Rattle.base_containers.proofs.text_map.TextMap.as_slice.Goals as goal

pub returns-clause-entries : goal.returns-clause-entries
returns-clause-entries g c = search rules

pub returns-clause-ordered : goal.returns-clause-ordered
returns-clause-ordered g c = search rules
