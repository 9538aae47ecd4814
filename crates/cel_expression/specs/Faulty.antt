-- An expression whose image the verifier refuses.
use Rattle.std.specs.Prelude.{◌≡◌, ℕ, List, Ok}
use Rattle.cel_value.specs.declared.cel_type.CelType.{CelType}
use Rattle.cel_check.specs.declared.tree.TypedTree.{TypedTree}
use Rattle.cel_check.specs.Typing.{types_in}
use Rattle.cel_code.specs.declared.image.Image.{Image}
use Rattle.cel_expression.specs.Compiled.{IsCompiled}
use Rattle.cel_verify.specs.declared.fault.VerifyFault.{VerifyFault}
use Rattle.cel_verify.specs.Accepted.{IsFault}
use Rattle.cel_expression.specs.Source.{Source}
use Rattle.cel_expression.specs.Expressions.{accepted_of}

-- the image that the expression compiles to has a fault at this instruction
pub record IsFaulty (tree : TypedTree) (types : List CelType) (at : ℕ) : Type 0 where
  pub image : Image
  pub compiled : IsCompiled image tree types
  pub fault : VerifyFault
  pub faulty : IsFault image fault
  pub here : fault.at ≡ at

-- the expression of a source may be run, and its image is faulty
pub record IsUnverified (s : Source) (at : ℕ) : Type 0 where
  pub tree : TypedTree
  pub is : accepted_of s ≡ Ok tree
  pub faulty : IsFaulty tree (types_in s.names) at
