use Rattle.std.proofs.Common.{sym}
use Rattle.std.proofs.lemmas.Result.{err_from_is_err_and}
use Rattle.vap_policy_evaluation.proofs.conditions.pass.Goals as goal

-- at the condition where the loop is
pub returns-in_err-tested-clause-pattern : goal.returns-in_err-tested-clause-pattern
returns-in_err-tested-clause-pattern g c = λ is.
    let p = err_from_is_err_and c.from_residual.result c.from_residual.ensures.1 in
    let q = p.1 in
    let r = p.2 in (
      c.loop-condition.condition-index,
      c.condition-item.result,
      c.loop-condition-test.true,
      sym c.condition-item.is,
      c.in_err-tested.ensures.pattern (cc),
    )
