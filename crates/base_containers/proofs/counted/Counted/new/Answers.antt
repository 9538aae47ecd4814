use Rattle.std.proofs.Common.{rules}
use Rattle.base_containers.proofs.counted.Counted.new.Goals as goal

pub returns-clause-none : goal.returns-clause-none
returns-clause-none c = search rules
