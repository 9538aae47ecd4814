use Rattle.std.proofs.Common.{◌≡◌}
use Rattle.vap_cli_replay.specs.declared.fault.ReplayError.TheVariants.{Line}
use Rattle.vap_cli_replay.proofs.crew.Crew.judge.Goals as goal

pub returns-in-Err-Fault-Judge-clause-told : goal.returns-in-Err-Fault-Judge-clause-told
returns-in-Err-Fault-Judge-clause-told g c =
    λ number why told.
    let same : c.unjudged.result ≡ Line number why = cc in
    c.unjudged.ensures.told number why same
