use Rattle.std.proofs.Common.{◌∙◌, [], ap, subst, sym}
use Rattle.std.proofs.lemmas.Result.{err_from_is_err_and}
use Rattle.vap_policy_programs.specs.Pairs.{scoped_from}
use Rattle.vap_policy_programs.specs.Defined.{scoped, scoped_by}
use Rattle.vap_policy_programs.specs.Expressions.{of_decisions, IsOneUnverified}
use Rattle.vap_policy_programs.proofs.Unverified.{one_left, one_right, scoped_names}
use Rattle.vap_policy_programs.proofs.pairs.compile_behind.Goals as goal

pub returns-in_err-fault-clause-unverified : goal.returns-in_err-fault-clause-unverified
returns-in_err-fault-clause-unverified c = λ at is.
    let p = err_from_is_err_and c.from_residual.result c.from_residual.ensures.1 in
    let q = p.1 in
    let r = p.2 in
    let h = c.in_err-fault.ensures.unverified at (cc) in
    one_left at _ _ (rw c.as_slice.ensures at h)

pub returns-in-Ok-clause-unverified : goal.returns-in-Ok-clause-unverified
returns-in-Ok-clause-unverified c = λ at is.
    let made = scoped_names c.args.choice.now c.args.names.now [] c.args.policy.now.variables (scoped_by c.in-Ok.defined)
    (ap (scoped_from c.args.choice.now c.args.names.now []) (sym c.as_slice.ensures)
    ∙ sym c.in_ok-fault.ensures.compiled ∙ ap scoped c.in-Ok.is) in
    one_right at _ _
    (subst (λ n. IsOneUnverified at (of_decisions c.args.choice.now n c.args.policy.now)) made
    (c.compile_decisions.ensures.unverified at is))
