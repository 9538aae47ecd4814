use Rattle.std.proofs.lemmas.Result.{err_from_is_err_and}
use Rattle.vap_policy_programs.proofs.Unverified.{one_variable}
use Rattle.vap_policy_programs.proofs.variables.compile_variables.Goals as goal

pub returns-in_err-compiled-clause-unverified : goal.returns-in_err-compiled-clause-unverified
returns-in_err-compiled-clause-unverified c = λ at is.
    let p = err_from_is_err_and c.from_residual-in_err-compiled.result c.from_residual-in_err-compiled.ensures.1 in
    let q = p.1 in
    let r = p.2 in
    one_variable at _ _ c.args.variables.now c.loop-variable.variable-index c.variable-item.result c.loop-variable.made.items _
    c.loop-variable-test.true c.variable-item.is (c.in_err-compiled.ensures.unverified at (cc)) c.loop-variable.invariant.1
