use Rattle.std.proofs.Common.{refl}
use Rattle.base_containers.proofs.line_reader.LineReader.new.Goals as goal

pub returns-clause-reads : goal.returns-clause-reads
returns-clause-reads c = refl
