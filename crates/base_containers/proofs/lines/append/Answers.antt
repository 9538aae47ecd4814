use Rattle.std.proofs.Common.{rules}
use Rattle.base_containers.proofs.lines.append.Goals as goal

pub returns-clause-memory : goal.returns-clause-memory
returns-clause-memory c = search rules
