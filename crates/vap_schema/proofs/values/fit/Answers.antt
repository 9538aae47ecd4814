use Rattle.std.proofs.Common.{rules}
use Rattle.std.proofs.lemmas.Result.{IfOk-weaker}
use Rattle.cel_value.proofs.Bounds.{weight_of-le}
use Rattle.vap_schema.specs.declared.path.Path as path
use Rattle.vap_schema.proofs.values.fit.Goals as goal

pub returns-clause-bounded : goal.returns-clause-bounded
returns-clause-bounded c = IfOk-weaker _ _ _ (λ v h. (weight_of-le c.args.cel_type.now).1 v h) c.fit_at.ensures.fits

pub returns-clause-exact : goal.returns-clause-exact
returns-clause-exact c = search (rules, path.the_lemmas)
