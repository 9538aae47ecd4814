use Rattle.std.proofs.Common.{◌≡◌, ◌≤◌, ◌+◌, ◌^◌, ◌≢◌}
use Rattle.std.specs.Io.KnownBytes.{Appends, IsAtEnd}
use Rattle.base_containers.specs.Counted.{failures_of, inner_of}
use Rattle.base_containers.specs.Lines.{AllGive, empty_reads, room, unread}
use Rattle.base_containers.specs.declared.lines.Ending.TheVariants.{Feed}
use Rattle.vap_watch.specs.Logs.{StartsWith}
use Rattle.vap_cli_replay.specs.Replay.{answers_text}
use Rattle.vap_cli_replay.specs.Sessions.{IsInStep}
use Rattle.vap_cli_replay.proofs.Next.{turns}
use Rattle.vap_cli_replay.proofs.Told.{Taken}
use Rattle.vap_cli_replay.proofs.stream.take_all.Given as goal

abbrev pub invariant-loop-session : goal.invariant-loop-session
invariant-loop-session g l = record {
  step : IsInStep l.session;
  log : StartsWith l.session.writer.published l.queue.log;
  home : l.crew.home.board ≡ l.session.writer.board;
  taken : Taken (g.R.Read.remaining (inner_of l.fn.input)) (unread g.R.Read.remaining l.input l.queue.pending) l.session;
  ended : l.ending ≢ Feed → IsAtEnd (unread g.R.Read.remaining l.input l.queue.pending);
  written : Appends (g.W.Write.contents (inner_of l.fn.output)) (g.W.Write.contents (inner_of l.output)) (answers_text l.session.history);
  counted : failures_of l.output ≡ failures_of l.fn.output;
  given :
      AllGive (empty_reads l.ending) (g.R.Read.remaining (inner_of l.fn.input)) (g.R.Read.remaining (inner_of l.input))
      l.initial.queue.pending l.queue.pending;
  no_failure : failures_of l.input ≡ failures_of l.fn.input;
  lines : l.session.lines + (room l.queue.pending + turns l.ending) ≤ 2 ^ 58 + 1;
}

abbrev pub decreases-loop-session : goal.decreases-loop-session
decreases-loop-session g l = room l.queue.pending + turns l.ending
