use Rattle.std.specs.Prelude.{IsErrOf}
use Rattle.std.proofs.lemmas.Result.{err_from_is_err_and}
use Rattle.base_containers.specs.Counted.{inner_of}
use Rattle.vap_cli_lines.specs.declared.fault.LineFault.TheVariants.{Pattern, Unverified}
use Rattle.vap_cli_replay.specs.declared.fault.ReplayError.TheVariants.{Line}
use Rattle.vap_cli_replay.proofs.Told.{replays_each, stopped_each}
use Rattle.vap_cli_replay.proofs.stream.replay_all.Goals as goal

pub returns-in_err-take_all-clause-refused : goal.returns-in_err-take_all-clause-refused
returns-in_err-take_all-clause-refused g c =
    let from = c.from_residual in
    let p = err_from_is_err_and from.result from.ensures.1 in
    λ line fault is told.
    let same : IsErrOf c.take_all.result (Line line fault) = cc (c.in_err-take_all.was) in
    c.take_all.ensures.refused line fault is same c.args.audit

pub returns-in_err-take_all-clause-stopped : goal.returns-in_err-take_all-clause-stopped
returns-in_err-take_all-clause-stopped g c =
    let from = c.from_residual in
    let p = err_from_is_err_and from.result from.ensures.1 in
    rw (p.1, p.2) (λ not. c.in_err-take_all.ensures.stopped not c.args.audit)

pub returns-clause-all_written : goal.returns-clause-all_written
returns-clause-all_written g c =
    let all = c.in_ok-take_all.ensures.all in
    replays_each c.finish.result c.args.audit (g.R.Read.remaining (inner_of c.args.input.now)) c.take_all.new.session
    (g.W.Write.contents (inner_of c.args.output.now)) (g.W.Write.contents (inner_of c.take_all.new.output))
    (g.W.Write.contents (inner_of c.finish.new.out)) all.whole all.none all.written c.finish.ensures.written

pub returns-clause-stopped : goal.returns-clause-stopped
returns-clause-stopped g c =
    let all = c.in_ok-take_all.ensures.all in
    stopped_each c.finish.result c.args.audit (g.R.Read.remaining (inner_of c.args.input.now)) c.take_all.new.session
    (g.W.Write.contents (inner_of c.args.output.now)) (g.W.Write.contents (inner_of c.take_all.new.output))
    (g.W.Write.contents (inner_of c.finish.new.out)) all.whole all.none all.written c.finish.ensures.stopped

pub returns-in_err-take_all-clause-pattern : goal.returns-in_err-take_all-clause-pattern
returns-in_err-take_all-clause-pattern g c =
    let from = c.from_residual in
    let p = err_from_is_err_and from.result from.ensures.1 in
    λ line told.
    let same : IsErrOf c.take_all.result (Line line Pattern) = cc (c.in_err-take_all.was) in
    c.take_all.ensures.pattern line same

pub returns-in_err-take_all-clause-unverified : goal.returns-in_err-take_all-clause-unverified
returns-in_err-take_all-clause-unverified g c =
    let from = c.from_residual in
    let p = err_from_is_err_and from.result from.ensures.1 in
    λ line told.
    let same : IsErrOf c.take_all.result (Line line Unverified) = cc (c.in_err-take_all.was) in
    c.take_all.ensures.unverified line same
