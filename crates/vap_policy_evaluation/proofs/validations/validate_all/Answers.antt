use Rattle.std.proofs.Common.{◌+◌, drop, arith, add-one, sym}
use Rattle.vap_policy_programs.specs.Pairs.{check_estimate}
use Rattle.vap_policy_evaluation.specs.Validations.{check_charge}
use Rattle.vap_policy_evaluation.proofs.Steps.{next_is, next_cost, next_failures}
use Rattle.vap_policy_evaluation.proofs.Sums.{next_sum}
use Rattle.std.proofs.lemmas.Result.{err_from_is_err_and}
use Rattle.vap_policy_evaluation.proofs.validations.validate_all.Goals as goal

pub loop-check-preserved : goal.loop-check-preserved
loop-check-preserved g c =
    let i = c.loop-check.check-index in
    let ks = c.args.checks.now in
    let k = c.check-item.result in
    let d = next_is ks i k c.loop-check-test.true c.check-item.is in
    let rest = drop (i + 1) ks in
    let e = c.in_ok-cost.ensures in
    let inv = c.loop-check.invariant in
    let slots = c.args.slots.now in
    let sum = next_sum check_estimate k rest (drop i ks) c.loop-check.charged _ _ d e.within inv.2 in
    let few = c.requires.1.1 in (
      next_failures c.args.policy slots c.loop-check.index _ k rest (drop i ks) _ _ _ d (add-one c.loop-check.index) e.failures inv.0,
      next_cost (check_charge slots) k rest (drop i ks) c.loop-check.charged _ _ d e.charged inv.1,
      sum,
      omega (arith, sum, few),
      omega arith,
      (rw d at inv.5).1,
    )

-- at the validation where the loop is
pub returns-in_err-cost-clause-pattern : goal.returns-in_err-cost-clause-pattern
returns-in_err-cost-clause-pattern g c = λ is.
    let p = err_from_is_err_and c.from_residual.result c.from_residual.ensures.1 in
    let q = p.1 in
    let r = p.2 in (
      c.loop-check.check-index,
      c.check-item.result,
      c.loop-check-test.true,
      sym c.check-item.is,
      c.in_err-cost.ensures.pattern (cc),
    )
