use Rattle.std.proofs.Common.{◌≡◌, ◌≢◌, ◌^◌, ◌+◌, ◌∙◌, ℕ, List, [], ap, arith, length, refl, rules, sym}
use Rattle.std.proofs.lemmas.Bool.{false≢true}
use Rattle.std.specs.Prelude.{IsErrOf}
use Rattle.std.specs.Io.KnownBytes.{IsAtEnd}
use Rattle.std.proofs.lemmas.Result.{err_from_is_err_and}
use Rattle.base_containers.specs.Counted.{inner_of}
use Rattle.base_containers.specs.Lines.{room, unread}
use Rattle.base_containers.specs.declared.lines.Ending.TheVariants.{End, Feed}
use Rattle.base_containers.proofs.BytesRead.{given_next, stops_behind}
use Rattle.vap_cli_replay.specs.declared.fault.ReplayError.TheVariants.{Line, Read}
use Rattle.vap_watch.proofs.Begins.{starts_here}
use Rattle.vap_cli_lines.proofs.LineQueues.{none_read}
use Rattle.vap_cli_replay.proofs.Next.{ended_of, lines_within, none_pending, stops_first}
use Rattle.vap_cli_lines.specs.declared.fault.LineFault.TheVariants.{Pattern, Unverified}
use Rattle.vap_cli_replay.specs.Replay.{Sofar, answers_text}
use Rattle.vap_audit.specs.declared.entry.Entry.{Entry}
use Rattle.vap_cli_replay.proofs.Reached.{none_waiting}
use Rattle.vap_cli_replay.proofs.Told.{appends_none, appends_same, read_last, refused_next, stopped_last, stopped_next, taken_next}
use Rattle.vap_cli_replay.proofs.Told.{told_unwritten, unanswered_last}
use Rattle.vap_cli_replay.proofs.Told.{unanswered_next, unverified_next, written_next}
use Rattle.vap_cli_replay.proofs.Waiting.{opened}
use Rattle.vap_cli_replay.proofs.stream.take_all.Goals as goal

pub returns-in_err-queue-clause-stopped : goal.returns-in_err-queue-clause-stopped
returns-in_err-queue-clause-stopped g c =
    let p = err_from_is_err_and c.from_residual.result c.from_residual.ensures.1 in
    rw p.1 (λ not audit.
    stops_first audit (g.R.Read.remaining (inner_of c.args.input.now)) (g.W.Write.contents (inner_of c.args.output.now)))

pub returns-in_err-ending-clause-refused : goal.returns-in_err-ending-clause-refused
returns-in_err-ending-clause-refused g c =
    let from = c.from_residual-in_err-ending in
    let p = err_from_is_err_and from.result from.ensures.1 in
    λ number why is told audit.
    let same : IsErrOf c.take_next.result (Line number why) = cc (c.in_err-ending.was) in
    refused_next g.W.Write.contents audit (g.R.Read.remaining (inner_of c.args.input.now))
    (unread g.R.Read.remaining c.loop-session.input c.loop-session.queue.pending) c.loop-session.session
    (g.W.Write.contents (inner_of c.args.output.now)) c.loop-session.output c.take_next.new.output number why
    c.loop-session.invariant.taken c.loop-session.invariant.written (c.take_next.ensures.refused number why is same)

pub returns-in_err-ending-clause-stopped : goal.returns-in_err-ending-clause-stopped
returns-in_err-ending-clause-stopped g c =
    let from = c.from_residual-in_err-ending in
    let p = err_from_is_err_and from.result from.ensures.1 in
    rw (p.1, p.2) (λ not audit.
    stopped_next g.W.Write.contents audit (g.R.Read.remaining (inner_of c.args.input.now))
    (unread g.R.Read.remaining c.loop-session.input c.loop-session.queue.pending) c.loop-session.session
    (g.W.Write.contents (inner_of c.args.output.now)) c.loop-session.output c.take_next.new.output
    c.loop-session.invariant.taken c.loop-session.invariant.written (c.in_err-ending.ensures.stopped not))

-- nothing is read so far
pub loop-session-init : goal.loop-session-init
loop-session-init g c =
    let all = g.R.Read.remaining (inner_of c.args.input.now) in
    let queue = c.in_ok-queue.queue.pending in
    let start : unread g.R.Read.remaining c.args.input.now queue ≡ all = none_pending queue.bytes all c.in_ok-queue.ensures.empty in
    let none : c.args.session.now.history ≡ [] =
    sym (none_waiting c.args.session.now c.requires.opening.none) ∙ ap (λ (s : Sofar). s.entries) c.requires.opening.sofar in
    let first : c.args.session.now.lines ≡ 0 = ap (λ (s : Sofar). s.lines) c.requires.opening.sofar in
    let empty : length queue.bytes ≡ 0 = ap (λ (bytes : List ℕ). length bytes) c.in_ok-queue.ensures.empty in
    let written = g.W.Write.contents (inner_of c.args.output.now) in
    record {
      step = c.requires.opening.step;
      log = rw (c.in_ok-queue.ensures.log, c.snapshot.ensures) (starts_here c.args.session.now.writer.published);
      home = c.requires.home;
      taken = opened all (unread g.R.Read.remaining c.args.input.now queue) c.args.session.now start c.requires.opening;
      ended = search rules;
      written =
          appends_same written written (answers_text c.args.session.now.history) [] (ap (λ (es : List Entry). answers_text es) none)
          (appends_none written);
      counted = search rules;
      given = none_read all queue queue refl;
      no_failure = search rules;
      lines = omega (arith, first, empty, c.in_ok-queue.ensures.reads);
    }

pub loop-session-preserved : goal.loop-session-preserved
loop-session-preserved g c =
    let at = c.loop-session.invariant in
    let on = c.in_ok-ending.ensures in
    let feed : c.loop-session.ending ≡ Feed = search rules in
    let not : c.loop-session.ending ≢ End = λ is. cc (feed, is) in
    record {
      step = on.step;
      log = on.log;
      home = on.home;
      taken =
          taken_next c.in_ok-ending.ending (g.R.Read.remaining (inner_of c.args.input.now))
          (unread g.R.Read.remaining c.loop-session.input c.loop-session.queue.pending)
          (unread g.R.Read.remaining c.take_next.new.input c.take_next.new.queue.pending) c.loop-session.session c.take_next.new.session
          at.taken on.taken;
      ended =
          ended_of c.in_ok-ending.ending (IsAtEnd (unread g.R.Read.remaining c.take_next.new.input c.take_next.new.queue.pending))
          on.taken.short on.taken.at_end;
      written =
          written_next g.W.Write.contents (g.W.Write.contents (inner_of c.args.output.now)) c.loop-session.session
          c.take_next.new.session c.loop-session.output c.take_next.new.output at.written on.written;
      counted = on.counts.all ∙ at.counted;
      given =
          given_next c.loop-session.ending c.in_ok-ending.ending (g.R.Read.remaining (inner_of c.args.input.now))
          (g.R.Read.remaining (inner_of c.loop-session.input)) (g.R.Read.remaining (inner_of c.take_next.new.input))
          c.in_ok-queue.queue.pending c.loop-session.queue.pending c.take_next.new.queue.pending not at.given on.given;
      no_failure = on.no_failure ∙ at.no_failure;
      lines =
          lines_within c.loop-session.ending c.in_ok-ending.ending c.loop-session.session.lines c.take_next.new.session.lines
          (room c.loop-session.queue.pending) (room c.take_next.new.queue.pending) (2 ^ 58 + 1) feed at.lines on.lines on.less on.no_more;
    }

pub returns-clause-stopped : goal.returns-clause-stopped
returns-clause-stopped g c =
    stopped_last c.answer_group.result g.W.Write.contents (g.R.Read.remaining (inner_of c.args.input.now))
    (unread g.R.Read.remaining c.loop-session.input c.loop-session.queue.pending) c.loop-session.session
    (g.W.Write.contents (inner_of c.args.output.now)) c.loop-session.output c.answer_group.new.out c.loop-session.invariant.taken
    c.loop-session.invariant.written c.answer_group.ensures.stopped

pub returns-in_err-ending-clause-read : goal.returns-in_err-ending-clause-read
returns-in_err-ending-clause-read g c =
    let from = c.from_residual-in_err-ending in
    let p = err_from_is_err_and from.result from.ensures.1 in
    let at = c.loop-session.invariant in
    let feed : c.loop-session.ending ≡ Feed = search rules in
    let not : c.loop-session.ending ≢ End = λ is. cc (feed, is) in
    λ told.
    let same : IsErrOf c.take_next.result Read = cc (c.in_err-ending.was) in
    stops_behind g.R.Read.remaining c.loop-session.ending c.args.input.now c.loop-session.input c.take_next.new.input
    c.in_ok-queue.queue.pending c.loop-session.queue.pending c.take_next.new.queue.pending c.in_ok-queue.ensures.reads at.given
    at.no_failure (not, c.take_next.ensures.read same)

pub returns-in_err-ending-clause-pattern : goal.returns-in_err-ending-clause-pattern
returns-in_err-ending-clause-pattern g c =
    let from = c.from_residual-in_err-ending in
    let p = err_from_is_err_and from.result from.ensures.1 in
    λ number told.
    let same : IsErrOf c.take_next.result (Line number Pattern) = cc (c.in_err-ending.was) in
    unanswered_next g.W.Write.contents (g.R.Read.remaining (inner_of c.args.input.now))
    (unread g.R.Read.remaining c.loop-session.input c.loop-session.queue.pending) c.loop-session.session
    (g.W.Write.contents (inner_of c.args.output.now)) c.loop-session.output c.take_next.new.output number
    c.loop-session.invariant.taken c.loop-session.invariant.written (c.take_next.ensures.pattern number same)

pub returns-in_err-ending-clause-unverified : goal.returns-in_err-ending-clause-unverified
returns-in_err-ending-clause-unverified g c =
    let from = c.from_residual-in_err-ending in
    let p = err_from_is_err_and from.result from.ensures.1 in
    λ number told.
    let same : IsErrOf c.take_next.result (Line number Unverified) = cc (c.in_err-ending.was) in
    unverified_next g.W.Write.contents (g.R.Read.remaining (inner_of c.args.input.now))
    (unread g.R.Read.remaining c.loop-session.input c.loop-session.queue.pending) c.loop-session.session
    (g.W.Write.contents (inner_of c.args.output.now)) c.loop-session.output c.take_next.new.output number
    c.loop-session.invariant.taken c.loop-session.invariant.written (c.take_next.ensures.unverified number same)

pub returns-clause-all : goal.returns-clause-all
returns-clause-all g c =
    let not : c.loop-session.ending ≢ Feed = search rules in
    read_last c.answer_group.result g.R.Read.remaining g.W.Write.contents c.args.input.now c.loop-session.input
    c.loop-session.queue.pending.bytes c.args.output.now c.loop-session.output c.answer_group.new.out c.loop-session.session
    c.answer_group.new.self c.loop-session.invariant.taken (c.loop-session.invariant.ended not) c.loop-session.invariant.written
    c.answer_group.ensures.answered c.answer_group.ensures.written

pub returns-clause-pattern : goal.returns-clause-pattern
returns-clause-pattern g c =
    λ number told.
    unanswered_last g.W.Write.contents (g.R.Read.remaining (inner_of c.args.input.now))
    (unread g.R.Read.remaining c.loop-session.input c.loop-session.queue.pending) c.loop-session.session
    (g.W.Write.contents (inner_of c.args.output.now)) c.loop-session.output c.answer_group.new.out number
    c.loop-session.invariant.taken c.loop-session.invariant.written (c.answer_group.ensures.pattern number Pattern told)
    (told_unwritten c.answer_group.result c.loop-session.output c.answer_group.new.out number Pattern told
    c.answer_group.ensures.stopped)

pub returns-clause-unverified : goal.returns-clause-unverified
returns-clause-unverified g c = λ number told. absurd (c.answer_group.ensures.pattern number Unverified told).fault

-- what the lines determine is no fault of the last group
pub returns-clause-refused : goal.returns-clause-refused
returns-clause-refused g c =
    λ number why is told.
    absurd (false≢true (sym (c.answer_group.ensures.lines number why told) ∙ is))
