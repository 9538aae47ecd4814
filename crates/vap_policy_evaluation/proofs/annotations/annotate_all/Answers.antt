use Rattle.std.proofs.Common.{arith}
use Rattle.std.proofs.Common.{◌+◌, drop, sym}
use Rattle.vap_policy_programs.specs.Pairs.{annotation_estimate}
use Rattle.vap_policy_evaluation.specs.Annotations.{note, note_failure, note_charge}
use Rattle.vap_policy_evaluation.proofs.Steps.{next_is, next_cost, next_found}
use Rattle.vap_policy_evaluation.proofs.Sums.{next_sum}
use Rattle.std.proofs.lemmas.Result.{err_from_is_err_and}
use Rattle.vap_policy_evaluation.proofs.annotations.annotate_all.Goals as goal

pub loop-annotation-preserved : goal.loop-annotation-preserved
loop-annotation-preserved g c =
    let i = c.loop-annotation.annotation-index in
    let ns = c.args.annotations.now in
    let n = c.annotation-item.result in
    let d = next_is ns i n c.loop-annotation-test.true c.annotation-item.is in
    let rest = drop (i + 1) ns in
    let e = c.in_ok-cost.ensures in
    let inv = c.loop-annotation.invariant in
    let slots = c.args.slots.now in
    let sum = next_sum annotation_estimate n rest (drop i ns) c.loop-annotation.charged _ _ d e.within inv.3 in
    let few = c.requires.1.1 in (
      next_found (note_failure c.args.policy slots) n rest (drop i ns) _ _ _ d e.failures inv.0,
      next_found (note slots) n rest (drop i ns) _ _ _ d e.notes inv.1,
      next_cost (note_charge slots) n rest (drop i ns) c.loop-annotation.charged _ _ d e.charged inv.2,
      sum,
      omega (arith, sum, few),
      (rw d at inv.5).1,
    )

-- at the annotation where the loop is
pub returns-in_err-cost-clause-pattern : goal.returns-in_err-cost-clause-pattern
returns-in_err-cost-clause-pattern g c = λ is.
    let p = err_from_is_err_and c.from_residual.result c.from_residual.ensures.1 in
    let q = p.1 in
    let r = p.2 in (
      c.loop-annotation.annotation-index,
      c.annotation-item.result,
      c.loop-annotation-test.true,
      sym c.annotation-item.is,
      c.in_err-cost.ensures.pattern (cc),
    )
