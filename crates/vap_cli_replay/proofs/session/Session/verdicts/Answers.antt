use Rattle.std.proofs.Common.{◌≡◌, List, subst}
use Rattle.std.specs.Prelude.{IfOk}
use Rattle.vap_match.specs.declared.request.Request.{Request}
use Rattle.vap_watch.specs.declared.log.Logged.{Logged}
use Rattle.vap_plane.specs.Answers.{verdicts_at}
use Rattle.vap_cli_replay.proofs.Unjudged.{group_tells}
use Rattle.vap_cli_replay.proofs.session.Session.verdicts.Goals as goal

pub returns-clause-verdicts : goal.returns-clause-verdicts
returns-clause-verdicts g c =
    let s = c.args.self.now in
    subst (λ (rs : List Request). IfOk c.judge.result (λ vs. vs.items ≡ verdicts_at s.writer.published rs)) c.as_slice.ensures.value
    (subst (λ (l : List Logged). IfOk c.judge.result (λ vs. vs.items ≡ verdicts_at l c.as_slice.result.now)) c.snapshot-snapshot.ensures
    c.judge.ensures.verdicts)

-- at the line of the first request
pub returns-clause-pattern : goal.returns-clause-pattern
returns-clause-pattern g c =
    λ number why told.
    group_tells c.args.self.now c.snapshot-snapshot.result.now c.as_slice.result.now number why c.snapshot-snapshot.ensures
    c.as_slice.ensures.value (c.judge.ensures.told number why told)
