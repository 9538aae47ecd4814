use Rattle.std.proofs.Common.{rules}
use Rattle.base_containers.proofs.counted.CountedWrite.flush.Goals as goal

pub returns-then-is_err-clause-counts : goal.returns-then-is_err-clause-counts
returns-then-is_err-clause-counts c = search rules

pub returns-else-is_err-clause-counts : goal.returns-else-is_err-clause-counts
returns-else-is_err-clause-counts c = search rules
