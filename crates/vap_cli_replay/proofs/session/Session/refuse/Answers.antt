use Rattle.std.specs.Prelude.{IsErrOf}
use Rattle.std.proofs.lemmas.Result.{err_from_is_err_and}
use Rattle.vap_cli_replay.specs.declared.fault.ReplayError.TheVariants.{Line}
use Rattle.vap_cli_replay.proofs.Told.{told_unwritten}
use Rattle.vap_cli_replay.proofs.session.Session.refuse.Goals as goal

pub returns-in_err-answer_group-clause-pattern : goal.returns-in_err-answer_group-clause-pattern
returns-in_err-answer_group-clause-pattern g c =
    let p = err_from_is_err_and c.from_residual.result c.from_residual.ensures.1 in
    λ number why out of told.
    let same : IsErrOf c.answer_group.result (Line number why) = cc (c.in_err-answer_group.was) in (
      c.answer_group.ensures.pattern number why same,
      told_unwritten c.answer_group.result c.args.out.now c.answer_group.new.out number why same c.answer_group.ensures.stopped,
    )
