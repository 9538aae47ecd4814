use Rattle.std.proofs.Common.{rules}
use Rattle.base_containers.proofs.counted.CountedWrite.write.Goals as goal

pub returns-else-has_failed-clause-counts : goal.returns-else-has_failed-clause-counts
returns-else-has_failed-clause-counts c = search rules
