use Rattle.std.proofs.Common.{arith, rules}
use Rattle.std.proofs.lemmas.Grind.{common_steps}
use Rattle.base_containers.proofs.line_reader.LineReader.hand_on.Goals as goal

pub returns-then-count-left-clause-hands : goal.returns-then-count-left-clause-hands
returns-then-count-left-clause-hands c = search rules

pub returns-then-count-rest-clause-short : goal.returns-then-count-rest-clause-short
returns-then-count-rest-clause-short c = grind (arith, common_steps)

pub returns-then-count-rest-clause-hands : goal.returns-then-count-rest-clause-hands
returns-then-count-rest-clause-hands c = search rules
