use Rattle.std.proofs.Common.{◌≡◌, ◌<◌, ◌∷◌, ◌+◌, ◌∙◌, suc, sym, ap, drop, length, arith, add-one, drop-cons}
use Rattle.cel_operators_applied.specs.Lent.{all_lent}
use Rattle.cel_expression.specs.Expressions.{estimate_at}
use Rattle.vap_policy_evaluation.proofs.FittingSlots.{next_values, next_charge, next_can}
use Rattle.vap_policy_evaluation.proofs.Sums.{next_sum}
use Rattle.std.proofs.lemmas.Result.{err_from_is_err_and}
use Rattle.vap_policy_evaluation.proofs.variables.evaluate.Goals as goal

pub loop-variable-preserved : goal.loop-variable-preserved
loop-variable-preserved g c =
    let i = c.loop-variable.variable-index in
    let vs = c.args.variables.now in
    let s = c.variable-item.result in
    let lt : i < length vs = c.loop-variable-test.true in
    let d : drop i vs ≡ s ∷ drop (i + 1) vs = rw add-one (drop-cons vs i s lt ∙ ap (λ z. z ∷ drop (suc i) vs) (sym c.variable-item.is)) in
    let e = c.in_ok-cost.ensures in
    let inv = c.loop-variable.invariant in
    let held = all_lent c.args.lent.now in
    let made = c.loop-variable.values.items in
    let sum = next_sum estimate_at s (drop (i + 1) vs) (drop i vs) c.loop-variable.charged _ _ d e.within inv.2 in
    let few = c.requires.1.1 in (
      next_values s (drop (i + 1) vs) (drop i vs) held made _ _ d e.value inv.0,
      next_charge s (drop (i + 1) vs) (drop i vs) held made _ c.loop-variable.charged _ _ d e.value e.charged inv.1,
      sum,
      omega (arith, sum, few),
      next_can s (drop (i + 1) vs) (drop i vs) held made _ _ d e.value e.fits inv.4,
    )

-- at the variable where the loop is
pub returns-in_err-cost-clause-pattern : goal.returns-in_err-cost-clause-pattern
returns-in_err-cost-clause-pattern g c = λ is.
    let p = err_from_is_err_and c.from_residual.result c.from_residual.ensures.1 in
    let q = p.1 in
    let r = p.2 in (
      c.loop-variable.variable-index,
      c.variable-item.result,
      c.loop-variable-test.true,
      sym c.variable-item.is,
      c.in_err-cost.ensures.pattern (cc),
    )
