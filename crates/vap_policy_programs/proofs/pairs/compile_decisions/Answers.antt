use Rattle.std.proofs.lemmas.Result.{err_from_is_err_and}
use Rattle.vap_policy_programs.proofs.Unverified.{one_left, one_right}
use Rattle.vap_policy_programs.proofs.pairs.compile_decisions.Goals as goal

pub returns-in_err-fault-clause-unverified : goal.returns-in_err-fault-clause-unverified
returns-in_err-fault-clause-unverified c = λ at is.
    let p = err_from_is_err_and c.from_residual.result c.from_residual.ensures.1 in
    let q = p.1 in
    let r = p.2 in
    let h = c.in_err-fault.ensures.unverified at (cc) in
    one_left at _ _ (rw c.as_slice.ensures at h)

pub returns-in_err-fault-in-Ok-clause-unverified : goal.returns-in_err-fault-in-Ok-clause-unverified
returns-in_err-fault-in-Ok-clause-unverified c = λ at is.
    let p = err_from_is_err_and c.from_residual-in_err-fault-in-Ok.result c.from_residual-in_err-fault-in-Ok.ensures.1 in
    let q = p.1 in
    let r = p.2 in
    let h = c.in_err-fault-in-Ok.ensures.unverified at (cc) in
    one_right at _ _ (rw c.as_slice-in-Ok.ensures at h)
