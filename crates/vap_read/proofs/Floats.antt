-- What the bits of a float say about it.
use Rattle.std.proofs.Common.{◌≡◌, T, sym, ap, ◌∙◌, to_bits, from_bits}
use Rattle.std.specs.Float.Ieee.{fits}
use Rattle.std.specs.Float.Ieee.Bits.{of_bits-to_bits}
use Rattle.std.specs.Float.{binary64}
use Rattle.std.specs.Prelude.{Float}

-- two floats of 64 bits with the same bits are one
pub same_by_bits : (x y : Float) → T (fits binary64 x) → T (fits binary64 y) → to_bits binary64 x ≡ to_bits binary64 y → x ≡ y
same_by_bits x y one other e = sym (of_bits-to_bits binary64 x one) ∙ ap (from_bits binary64) e ∙ of_bits-to_bits binary64 y other
