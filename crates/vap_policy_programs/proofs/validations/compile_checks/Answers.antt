use Rattle.std.proofs.Common.{◌∙◌, sym}
use Rattle.std.proofs.lemmas.Result.{err_from_is_err_and}
use Rattle.vap_policy_programs.specs.Pairs.{check_of}
use Rattle.vap_policy_programs.specs.Expressions.{of_check}
use Rattle.vap_policy_programs.proofs.Each.{each_next}
use Rattle.vap_policy_programs.proofs.Unverified.{one_of}
use Rattle.vap_policy_programs.proofs.validations.compile_checks.Goals as goal

pub returns-in_err-check-clause-unverified : goal.returns-in_err-check-clause-unverified
returns-in_err-check-clause-unverified c = λ at is.
    let p = err_from_is_err_and c.from_residual.result c.from_residual.ensures.1 in
    let q = p.1 in
    let r = p.2 in
    one_of (of_check c.args.choice.now c.args.names.now) at
    c.args.validations.now c.loop-validation.validation-index
    c.validation-item.result c.loop-validation-test.true c.validation-item.is (c.in_err-check.ensures.unverified at (cc))

pub loop-validation-preserved : goal.loop-validation-preserved
loop-validation-preserved c =
    each_next (check_of c.args.choice.now c.args.names.now) c.args.validations.now
    c.loop-validation.validation-index c.validation-item.result
    c.in-Ok.check c.loop-validation.made.items _ c.loop-validation-test.true c.validation-item.is
    (sym c.in_ok-check.ensures.compiled ∙ c.in-Ok.is) c.in_ok-push-in-Ok.ensures.items c.loop-validation.invariant
