use Rattle.std.proofs.Common.{sym, ap, subst}
use Rattle.vap_plane.specs.Answers.{AreRight}
use Rattle.vap_plane.specs.declared.collected.Collected.{Collected}
use Rattle.vap_plane.proofs.running.collect.Goals.{in-Ok-Answered+in_ok-keep-in-Ok-Answered, in-Ok-Failed}
use Rattle.vap_plane.proofs.running.collect.Goals as goal

pub loop-turn-preserved : goal.loop-turn-preserved
loop-turn-preserved g c =
    let right = λ (k : Collected). AreRight g.B.Batch.told g.B.Batch.requests k.answers.items in
    elim c.match-recv-2.branch [
      | in-Ok-Answered+in_ok-keep-in-Ok-Answered w ↦ subst right (sym w.collected-is) w.in_ok-keep-in-Ok-Answered.ensures
      | in-Ok-Failed w ↦
          subst right (sym w.collected-is) (subst (AreRight g.B.Batch.told g.B.Batch.requests) (sym w.note.ensures) c.loop-turn.invariant)
    ]
