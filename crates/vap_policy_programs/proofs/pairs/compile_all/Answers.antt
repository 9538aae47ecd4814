use Rattle.std.proofs.lemmas.Result.{err_from_is_err_and}
use Rattle.vap_policy_programs.specs.Expressions.{expressions_of}
use Rattle.vap_policy_programs.proofs.Unverified.{one_left, one_right}
use Rattle.vap_policy_programs.proofs.pairs.compile_all.Goals as goal

pub returns-in_err-fault-clause-unverified : goal.returns-in_err-fault-clause-unverified
unfolding expressions_of
returns-in_err-fault-clause-unverified c = λ at is.
    let p = err_from_is_err_and c.from_residual.result c.from_residual.ensures.1 in
    let q = p.1 in
    let r = p.2 in
    let h = c.in_err-fault.ensures.unverified at (cc) in
    one_left at _ _ (rw c.as_slice.ensures at h)

pub returns-in-Ok-clause-unverified : goal.returns-in-Ok-clause-unverified
unfolding expressions_of
returns-in-Ok-clause-unverified c = λ at is. one_right at _ _ (c.compile_behind.ensures.unverified at is)
