-- Why a typed expression is not compiled.
use Rattle.std.proofs.Common.{◌≡◌, ℕ, List}
use Rattle.base_containers.specs.Failures.{Widens}
use Rattle.base_containers.specs.declared.failed.Failed.{Failed}
use Rattle.base_containers.specs.declared.failed.Failed.TheVariants.{OutOfMemory, Fault}
use Rattle.cel_value.specs.declared.cel_type.CelType.{CelType}
use Rattle.cel_check.specs.declared.tree.TypedTree.{TypedTree}
use Rattle.cel_code.specs.declared.image.Image.{Image}
use Rattle.cel_expression.specs.Compiled.{IsCompiled}
use Rattle.cel_verify.specs.Accepted.{IsRefused}
use Rattle.cel_verify.specs.declared.fault.VerifyFault.{VerifyFault}
use Rattle.cel_expression.specs.declared.refusal.CompileFault.{CompileFault}
use Rattle.cel_expression.specs.declared.refusal.CompileFault.TheVariants.{Unverified}
use Rattle.cel_expression.specs.Faulty.{IsFaulty}

-- a refusal of the image that an expression compiles to
pub refused_image : (tree : TypedTree) (image : Image) (types : List CelType) (error : Failed VerifyFault) (at : ℕ)
    → (e : Failed CompileFault) → IsCompiled image tree types → IsRefused image error
    → Widens (λ refused fault. fault ≡ Unverified refused.at) error e → e ≡ Fault (Unverified at) → IsFaulty tree types at
refused_image tree image types OutOfMemory at OutOfMemory compiled refused from is = cc
refused_image tree image types OutOfMemory at (Fault g) compiled refused from is = absurd from
refused_image tree image types (Fault f) at OutOfMemory compiled refused from is = absurd from
refused_image tree image types (Fault f) at (Fault g) compiled refused from is =
    let same : g ≡ Unverified f.at = from in
    record { image = image; compiled = compiled; fault = f; faulty = refused.0; here = cc }
