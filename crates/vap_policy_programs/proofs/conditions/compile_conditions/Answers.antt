use Rattle.std.proofs.Common.{◌∙◌, sym}
use Rattle.std.proofs.lemmas.Result.{err_from_is_err_and}
use Rattle.vap_policy_programs.specs.Pairs.{condition_of}
use Rattle.vap_read.specs.declared.policy.NamedExpression.{NamedExpression}
use Rattle.vap_policy_programs.specs.Scopes.{source}
use Rattle.vap_policy_programs.proofs.Each.{each_next}
use Rattle.vap_policy_programs.proofs.Unverified.{one_mapped}
use Rattle.vap_policy_programs.proofs.conditions.compile_conditions.Goals as goal

pub returns-in_err-compiled-clause-unverified : goal.returns-in_err-compiled-clause-unverified
returns-in_err-compiled-clause-unverified c = λ at is.
    let p = err_from_is_err_and c.from_residual.result c.from_residual.ensures.1 in
    let q = p.1 in
    let r = p.2 in
    one_mapped (λ (x : NamedExpression). source c.args.choice.now c.args.names.now x.expression) at
    c.args.conditions.now c.loop-condition.condition-index
    c.condition-item.result c.loop-condition-test.true c.condition-item.is (c.in_err-compiled.ensures.unverified at (cc))

pub loop-condition-preserved : goal.loop-condition-preserved
loop-condition-preserved c =
    each_next (condition_of c.args.choice.now c.args.names.now) c.args.conditions.now
    c.loop-condition.condition-index c.condition-item.result
    c.in-Ok.compiled c.loop-condition.made.items _ c.loop-condition-test.true c.condition-item.is
    (sym c.in_ok-compiled.ensures.compiled ∙ c.in-Ok.is) c.in_ok-push-in-Ok.ensures.items c.loop-condition.invariant
