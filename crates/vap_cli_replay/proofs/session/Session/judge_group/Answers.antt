use Rattle.std.proofs.Common.{◌+◌, ◌≤◌, ◌++◌, List, length, ap, sym, subst, ◌∙◌}
use Rattle.std.specs.Prelude.{IsErrOf}
use Rattle.std.proofs.lemmas.Result.{err_from_is_err_and}
use Rattle.vap_match.specs.declared.request.Request.{Request}
use Rattle.vap_audit.specs.Entries.{most_entries}
use Rattle.vap_plane.specs.Answers.{verdicts_at}
use Rattle.vap_cli_replay.specs.Replay.{answers_text}
use Rattle.vap_cli_replay.specs.Sessions.{group_entries}
use Rattle.vap_cli_replay.specs.declared.fault.ReplayError.TheVariants.{Line}
use Rattle.vap_cli_replay.proofs.session.Session.judge_group.Goals as goal

-- the verdicts are those on the requests that were taken out of the group
pub decide_all-requires-clause-right : goal.decide_all-requires-clause-right
decide_all-requires-clause-right g c =
    let log = c.args.self.now.writer.published in
    c.in_ok-verdicts.ensures.verdicts
    ∙ ap (λ (rs : List Request). verdicts_at log rs) (sym (ap (λ g. g.items) c.replace-group.ensures.value))

pub decide_all-requires-clause-room : goal.decide_all-requires-clause-room
decide_all-requires-clause-room g c =
    subst (λ (rs : List Request). length c.args.self.now.history + length rs ≤ most_entries)
    (sym (ap (λ g. g.items) c.replace-group.ensures.value)) c.requires.room.room

pub returns-clause-answered : goal.returns-clause-answered
returns-clause-answered g c =
    let done = c.in_ok-text.ensures.decided in
    let old = c.args.self.now in
    record {
      log = done.log;
      lines = done.lines;
      none = c.in_ok-text.ensures.none;
      blank = ap (λ a. a.items) done.answers ∙ c.clear.ensures.items;
      entries =
          done.history
          ∙ ap (λ (rs : List Request). old.history ++ group_entries old.writer.published (length old.history) rs)
          (ap (λ g. g.items) c.replace-group.ensures.value);
    }

pub returns-clause-text : goal.returns-clause-text
returns-clause-text g c =
    let old = c.args.self.now in
    c.in_ok-text.ensures.text
    ∙ ap (λ (rs : List Request). answers_text (group_entries old.writer.published (length old.history) rs))
    (ap (λ g. g.items) c.replace-group.ensures.value)

-- at the line of the first request
pub returns-in_err-verdicts-clause-pattern : goal.returns-in_err-verdicts-clause-pattern
returns-in_err-verdicts-clause-pattern g c =
    let p = err_from_is_err_and c.from_residual.result c.from_residual.ensures.1 in
    λ number why told.
    let same : IsErrOf c.verdicts.result (Line number why) = cc (c.in_err-verdicts.was) in
    c.verdicts.ensures.pattern number why same
