-- Integers of 64 bits.
use Rattle.std.proofs.Common.{◌≡◌, ℤ, pos, negsuc, ◌^◌, Option, Some, None, IfSome, sym, ap}
use Rattle.std.specs.Prelude.{FitsSigned}
use Rattle.std.specs.Int.{w64}
use Rattle.std.specs.Option.{SomeIff}
use Rattle.std.proofs.lemmas.Bool.{lt-ltb}
use Rattle.cel_operators.specs.Operators.{int_or_overflow, makes}
use Rattle.cel_operators_applied.specs.Counted.{counted}
use Rattle.cel_machine.specs.Follow.{int_made}

-- what is an integer of 64 bits is no overflow, and is made for a charge of 1
pub made_of : (z : ℤ) (r : Option ℤ) → SomeIff r (FitsSigned w64 z) z
    → IfSome r (λ k. counted (makes (Some (int_or_overflow z)) 1) ≡ Some (int_made k))
made_of z None fails = tt
made_of (pos n) (Some k) is = rw (lt-ltb n (2 ^ 63) is.0.sfits) (ap (λ y. Some (int_made y)) (sym is.1))
made_of (negsuc n) (Some k) is = rw (lt-ltb n (2 ^ 63) is.0.sfits) (ap (λ y. Some (int_made y)) (sym is.1))
