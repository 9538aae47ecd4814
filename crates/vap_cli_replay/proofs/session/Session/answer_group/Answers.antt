use Rattle.std.specs.Prelude.{IsErrOf}
use Rattle.std.proofs.lemmas.Result.{err_from_is_err_and}
use Rattle.vap_cli_replay.specs.declared.fault.ReplayError.TheVariants.{Line}
use Rattle.vap_cli_replay.proofs.session.Session.answer_group.Goals as goal

pub returns-in_err-text-clause-pattern : goal.returns-in_err-text-clause-pattern
returns-in_err-text-clause-pattern g c =
    let p = err_from_is_err_and c.from_residual.result c.from_residual.ensures.1 in
    λ number why told.
    let same : IsErrOf c.decide_group.result (Line number why) = cc (c.in_err-text.was) in
    c.decide_group.ensures.pattern number why same
