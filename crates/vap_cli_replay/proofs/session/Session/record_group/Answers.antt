use Rattle.std.proofs.Common.{◌≡◌, ◌+◌, ◌≤◌, ◌++◌, [], List, length, ap, sym, subst, rules, ◌∙◌}
use Rattle.vap_match.specs.declared.request.Request.{Request}
use Rattle.vap_audit.specs.Entries.{most_entries}
use Rattle.vap_plane.specs.Answers.{verdicts_at}
use Rattle.vap_cli_replay.specs.Sessions.{HasAnswers, group_entries}
use Rattle.vap_cli_replay.proofs.session.Session.record_group.Goals as goal

-- the verdicts are those on the requests that were taken out of the group
pub record_all-requires-clause-right : goal.record_all-requires-clause-right
record_all-requires-clause-right c =
    let old = c.args.self.now in
    let there : HasAnswers old = c.requires.room.judged c.requires.judged in
    ap (λ vs. vs.items) c.replace-verdicts.ensures.value
    ∙ (there.verdicts
    ∙ ap (λ (rs : List Request). verdicts_at old.writer.published rs) (sym (ap (λ g. g.items) c.replace-group.ensures.value)))

pub record_all-requires-clause-room : goal.record_all-requires-clause-room
record_all-requires-clause-room c =
    subst (λ (rs : List Request). length c.args.self.now.history + length rs ≤ most_entries)
    (sym (ap (λ g. g.items) c.replace-group.ensures.value)) c.requires.room.room

pub returns-clause-answered : goal.returns-clause-answered
returns-clause-answered c =
    let done = c.in_ok-record_all.ensures.decided in
    let old = c.args.self.now in
    let none : c.replace-group.new.dest.items ≡ [] = search rules in
    let blank : c.replace-text.new.dest.items ≡ [] = search rules in
    record {
      log = done.log;
      lines = done.lines;
      none = ap (λ g. g.items) c.record_all.ensures.group ∙ none;
      blank = ap (λ a. a.items) done.answers ∙ blank;
      entries =
          done.history
          ∙ ap (λ (rs : List Request). old.history ++ group_entries old.writer.published (length old.history) rs)
          (ap (λ g. g.items) c.replace-group.ensures.value);
    }

pub returns-clause-text : goal.returns-clause-text
returns-clause-text c =
    let there : HasAnswers c.args.self.now = c.requires.room.judged c.requires.judged in
    ap (λ t. t.items) c.replace-text.ensures.value ∙ there.answers
