use Rattle.std.proofs.Common.{◌∙◌, sym}
use Rattle.std.proofs.lemmas.Result.{err_from_is_err_and}
use Rattle.vap_policy_programs.specs.Pairs.{annotation_of}
use Rattle.vap_read.specs.declared.policy.AuditAnnotation.{AuditAnnotation}
use Rattle.vap_policy_programs.specs.Scopes.{source}
use Rattle.vap_policy_programs.proofs.Each.{each_next}
use Rattle.vap_policy_programs.proofs.Unverified.{one_mapped}
use Rattle.vap_policy_programs.proofs.annotations.compile_annotations.Goals as goal

pub returns-in_err-compiled-clause-unverified : goal.returns-in_err-compiled-clause-unverified
returns-in_err-compiled-clause-unverified c = λ at is.
    let p = err_from_is_err_and c.from_residual.result c.from_residual.ensures.1 in
    let q = p.1 in
    let r = p.2 in
    one_mapped (λ (x : AuditAnnotation). source c.args.choice.now c.args.names.now x.value_expression) at
    c.args.annotations.now c.loop-annotation.annotation-index
    c.annotation-item.result c.loop-annotation-test.true c.annotation-item.is (c.in_err-compiled.ensures.unverified at (cc))

pub loop-annotation-preserved : goal.loop-annotation-preserved
loop-annotation-preserved c =
    each_next (annotation_of c.args.choice.now c.args.names.now) c.args.annotations.now
    c.loop-annotation.annotation-index c.annotation-item.result
    c.in-Ok.compiled c.loop-annotation.made.items _ c.loop-annotation-test.true c.annotation-item.is
    (sym c.in_ok-compiled.ensures.compiled ∙ c.in-Ok.is) c.in_ok-push-in-Ok.ensures.items c.loop-annotation.invariant
