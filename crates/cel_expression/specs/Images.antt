-- The image of an expression that may be run.
use Rattle.std.specs.Prelude.{◌≡◌, Ok}
use Rattle.cel_check.specs.declared.tree.TypedTree.{TypedTree}
use Rattle.cel_check.specs.Typing.{types_in}
use Rattle.cel_code.specs.declared.image.Image.{Image}
use Rattle.cel_expression.specs.Compiled.{IsCompiled}
use Rattle.cel_expression.specs.Source.{Source}
use Rattle.cel_expression.specs.Expressions.{accepted_of}

-- what the tree of a source that may be run compiles to
pub record IsImageOf (source : Source) (image : Image) : Type 0 where
  pub tree : TypedTree
  pub accepted : accepted_of source ≡ Ok tree
  pub compiled : IsCompiled image tree (types_in source.names)
