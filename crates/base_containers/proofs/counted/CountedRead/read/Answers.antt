use Rattle.std.proofs.Common.{rules}
use Rattle.base_containers.proofs.counted.CountedRead.read.Goals as goal

pub returns-else-is_err-clause-bytes : goal.returns-else-is_err-clause-bytes
returns-else-is_err-clause-bytes c = search rules
