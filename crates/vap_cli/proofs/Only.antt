-- Types of faults that have only one fault.
use Rattle.std.proofs.Common.{◌≡◌, ℕ, refl}
use Rattle.cel_machine.specs.declared.fault.RunFault.{RunFault}
use Rattle.cel_machine.specs.declared.fault.RunFault.TheVariants.{Pattern}
use Rattle.cel_expression.specs.declared.refusal.CompileFault.{CompileFault}
use Rattle.cel_expression.specs.declared.refusal.CompileFault.TheVariants.{Unverified}

pub only_pattern : (fault : RunFault) → fault ≡ Pattern
only_pattern Pattern = refl

-- the place that a fault names
abbrev pub place_of : CompileFault → ℕ
place_of (Unverified at) = at

pub only_unverified : (fault : CompileFault) → fault ≡ Unverified (place_of fault)
only_unverified (Unverified at) = refl
