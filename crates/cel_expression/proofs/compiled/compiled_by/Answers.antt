use Rattle.std.proofs.Common.{◌≡◌, ap}
use Rattle.std.specs.Prelude.{Err}
use Rattle.base_containers.specs.declared.failed.Failed.TheVariants.{Fault}
use Rattle.cel_expression.specs.declared.refusal.CompileFault.TheVariants.{Unverified}
use Rattle.cel_expression.proofs.compiled.compiled_by.Goals as goal

pub returns-in-Err-clause-unverified : goal.returns-in-Err-clause-unverified
returns-in-Err-clause-unverified c =
    λ at is.
    let same : c.in-Err.error ≡ Fault (Unverified at) = cc in
    c.in-Err.ensures.unverified at (ap Err same)
