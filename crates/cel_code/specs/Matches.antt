-- Images that look for patterns.
use Rattle.std.specs.Prelude.{◌≡◌, ℕ, Bool, true, false, IsTrue, Some, slice_get}
use Rattle.cel_operators.specs.declared.text_operator.TextOperator.TheVariants.{Matches}
use Rattle.cel_code.specs.declared.instr.Instr.{Instr}
use Rattle.cel_code.specs.declared.instr.Instr.TheVariants.{WithText}
use Rattle.cel_code.specs.declared.image.Image.{Image}

-- whether an instruction looks for a pattern
abbrev pub is_matches : Instr → Bool
is_matches (WithText Matches number) = true
is_matches _ = false

-- an instruction of an image looks for a pattern
pub record HasMatches (image : Image) : Type 0 where
  pub at : ℕ
  pub instr : Instr
  pub stands : slice_get image.code at ≡ Some instr
  pub matches : IsTrue (is_matches instr)
