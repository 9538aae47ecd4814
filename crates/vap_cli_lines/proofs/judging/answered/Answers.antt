use Rattle.std.specs.Prelude.{IsErrOf}
use Rattle.std.proofs.lemmas.Result.{err_from_is_err_and}
use Rattle.base_containers.specs.declared.failed.Failed.TheVariants.{Fault}
use Rattle.cel_machine.specs.declared.fault.RunFault.TheVariants.{Pattern}
use Rattle.vap_cli_lines.proofs.judging.answered.Goals as goal

-- a review that is not judged is not answered, for the same reason
pub returns-in_err-verdict-clause-pattern : goal.returns-in_err-verdict-clause-pattern
returns-in_err-verdict-clause-pattern c =
    let p = err_from_is_err_and c.from_residual.result c.from_residual.ensures.1 in
    λ told.
    let same : IsErrOf c.judge_open.result (Fault Pattern) = cc (c.in_err-verdict.was) in
    c.judge_open.ensures.pattern same
