use Rattle.std.proofs.Common.{arith}
use Rattle.std.proofs.lemmas.Grind.{common_steps}
use Rattle.vap_read_objects.proofs.by_name.place_for.Goals as goal

pub returns-then-lt-clause-place : goal.returns-then-lt-clause-place
returns-then-lt-clause-place g c = grind (arith, common_steps)

pub loop-entry-preserved : goal.loop-entry-preserved
loop-entry-preserved g c = grind (arith, common_steps)
