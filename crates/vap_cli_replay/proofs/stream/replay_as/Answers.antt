use Rattle.std.proofs.lemmas.Result.{err_from_is_err_and}
use Rattle.base_containers.specs.Counted.{inner_of}
use Rattle.vap_cli_replay.proofs.Next.{stops_first}
use Rattle.vap_cli_replay.proofs.stream.replay_as.Goals as goal

pub returns-in_err-session-clause-stopped : goal.returns-in_err-session-clause-stopped
returns-in_err-session-clause-stopped g c =
    let p = err_from_is_err_and c.from_residual.result c.from_residual.ensures.1 in
    rw p.1 (λ not.
    stops_first c.args.audit (g.R.Read.remaining (inner_of c.args.input.now))
    (g.W.Write.contents (inner_of c.args.output.now)))
