use Rattle.vap_plane.specs.Answers.{AreRight}
use Rattle.vap_plane.proofs.running.collect.Given as goal

abbrev pub invariant-loop-turn : goal.invariant-loop-turn
invariant-loop-turn g l = AreRight g.B.Batch.told g.B.Batch.requests l.collected.answers.items
