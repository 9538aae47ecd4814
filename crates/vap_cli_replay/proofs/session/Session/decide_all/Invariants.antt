use Rattle.std.proofs.Common.{◌≡◌, ◌≤◌, ◌+◌, ◌++◌, [], length}
use Rattle.std.specs.Vec.Iter.{into_iter_items}
use Rattle.vap_audit.specs.Entries.{most_entries}
use Rattle.vap_plane.specs.Answers.{verdicts_at}
use Rattle.vap_cli_replay.specs.Replay.{answers_text}
use Rattle.vap_cli_replay.specs.Sessions.{group_entries}
use Rattle.vap_cli_replay.proofs.session.Session.decide_all.Given as goal

-- what is decided, with what is decided on the requests that are left, is what is decided on all; and the verdicts on those are left
abbrev pub invariant-loop-request : goal.invariant-loop-request
invariant-loop-request l =
    let left = group_entries l.self.writer.published (length l.self.history) (into_iter_items l.request-iterator) in
    let all = group_entries l.fn.self.writer.published (length l.fn.self.history) l.fn.group.items in
    record {
      log : l.self.writer ≡ l.fn.self.writer;
      lines : l.self.lines ≡ l.fn.self.lines;
      none : l.self.group.items ≡ [];
      kept : l.self.answers ≡ l.fn.self.answers;
      entries : l.self.history ++ left ≡ l.fn.self.history ++ all;
      text : l.text.items ++ answers_text left ≡ answers_text all;
      room : length l.self.history + length (into_iter_items l.request-iterator) ≤ most_entries;
      verdicts : into_iter_items l.answers ≡ verdicts_at l.fn.self.writer.published (into_iter_items l.request-iterator);
    }
