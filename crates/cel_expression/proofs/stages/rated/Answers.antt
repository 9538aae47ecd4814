use Rattle.std.proofs.Common.{refl, subst, ◌≤◌, arith}
use Rattle.cel_estimate.specs.Estimate.{budget}
use Rattle.cel_expression.proofs.Within.{within, past}
use Rattle.cel_expression.proofs.stages.rated.Goals as goal

pub returns-in-Ok : goal.returns-in-Ok
returns-in-Ok c = record {
  tree = within c.args.typed.tree (subst (λ n. n ≤ budget) c.in-Ok.ensures.exact.0 c.in-Ok.ensures.exact.1);
  slots = refl;
  estimate = c.in-Ok.ensures.exact.0;
  within = c.in-Ok.ensures.exact.1;
  bounds = λ slots fit. omega (arith, c.in-Ok.ensures.bounds slots fit, c.in-Ok.ensures.exact.0);
}

pub returns-in-Err : goal.returns-in-Err
returns-in-Err c = past c.args.typed.tree _ c.in-Err.ensures.exact.0 c.in-Err.ensures.exact.1
