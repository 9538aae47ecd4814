use Rattle.std.proofs.Common.{List, subst}
use Rattle.std.specs.Prelude.{IsErrOf}
use Rattle.std.proofs.lemmas.Result.{err_from_is_err_and}
use Rattle.base_containers.specs.Lines.{IsFirst, unread}
use Rattle.vap_cli_replay.specs.declared.fault.ReplayError.TheVariants.{Line}
use Rattle.vap_cli_replay.proofs.Next.{next_refused}
use Rattle.vap_cli_lines.specs.declared.fault.LineFault.TheVariants.{Pattern, Unverified}
use Rattle.vap_cli_replay.proofs.Unjudged.{next_unjudged, next_unpublished}
use Rattle.vap_watch.specs.Begins.{StartsWith}
use Rattle.vap_watch.specs.declared.log.Logged.{Logged}
use Rattle.vap_watch.proofs.Begins.{starts_further}
use Rattle.vap_cli_replay.proofs.Reached.{log_advanced}
use Rattle.vap_cli_replay.proofs.stream.take_next.Goals as goal

pub returns-in_err-take_bytes-clause-refused : goal.returns-in_err-take_bytes-clause-refused
returns-in_err-take_bytes-clause-refused g c =
    let from = c.from_residual-in_err-take_bytes in
    let p = err_from_is_err_and from.result from.ensures.1 in
    let first : IsFirst (unread g.R.Read.remaining c.args.input.now c.args.queue.now.pending)
    (unread g.R.Read.remaining c.next.new.input c.next.new.self.pending) c.next.new.buffer c.in_ok-line.line.ending =
    c.in_ok-line.ensures.first in
    λ number why is told.
    let same : IsErrOf c.take_bytes.result (Line number why) = cc (c.in_err-take_bytes.was) in
    next_refused g.W.Write.contents c.in_ok-line.line.ending (unread g.R.Read.remaining c.args.input.now c.args.queue.now.pending)
    (unread g.R.Read.remaining c.next.new.input c.next.new.self.pending) c.next.new.buffer c.args.session.now c.args.output.now
    c.take_bytes.new.output number why first (c.take_bytes.ensures.refused number why is same)

pub returns-in_err-take_bytes-clause-pattern : goal.returns-in_err-take_bytes-clause-pattern
returns-in_err-take_bytes-clause-pattern g c =
    let from = c.from_residual-in_err-take_bytes in
    let p = err_from_is_err_and from.result from.ensures.1 in
    let first : IsFirst (unread g.R.Read.remaining c.args.input.now c.args.queue.now.pending)
    (unread g.R.Read.remaining c.next.new.input c.next.new.self.pending) c.next.new.buffer c.in_ok-line.line.ending =
    c.in_ok-line.ensures.first in
    λ number told.
    let same : IsErrOf c.take_bytes.result (Line number Pattern) = cc (c.in_err-take_bytes.was) in
    next_unjudged c.in_ok-line.line.ending (unread g.R.Read.remaining c.args.input.now c.args.queue.now.pending)
    (unread g.R.Read.remaining c.next.new.input c.next.new.self.pending) c.next.new.buffer c.args.session.now c.args.output.now
    c.take_bytes.new.output number first (c.take_bytes.ensures.pattern number same)

pub returns-in_err-take_bytes-clause-unverified : goal.returns-in_err-take_bytes-clause-unverified
returns-in_err-take_bytes-clause-unverified g c =
    let from = c.from_residual-in_err-take_bytes in
    let p = err_from_is_err_and from.result from.ensures.1 in
    let first : IsFirst (unread g.R.Read.remaining c.args.input.now c.args.queue.now.pending)
    (unread g.R.Read.remaining c.next.new.input c.next.new.self.pending) c.next.new.buffer c.in_ok-line.line.ending =
    c.in_ok-line.ensures.first in
    λ number told.
    let same : IsErrOf c.take_bytes.result (Line number Unverified) = cc (c.in_err-take_bytes.was) in
    next_unpublished g.W.Write.contents c.in_ok-line.line.ending (unread g.R.Read.remaining c.args.input.now c.args.queue.now.pending)
    (unread g.R.Read.remaining c.next.new.input c.next.new.self.pending) c.next.new.buffer c.args.session.now c.args.output.now
    c.take_bytes.new.output number first (c.take_bytes.ensures.unverified number same)

-- the log goes on from the one at which the lines that wait are judged
pub returns-clause-log : goal.returns-clause-log
returns-clause-log g c =
    starts_further c.take_bytes.new.session.writer.published c.args.session.now.writer.published c.next.new.self.log
    (log_advanced c.in_ok-line.line.ending c.next.new.buffer c.args.session.now c.take_bytes.new.session c.in_ok-take_bytes.ensures.taken)
    (subst (λ (log : List Logged). StartsWith log c.next.new.self.log) c.snapshot.ensures c.in_ok-line.ensures.log)
