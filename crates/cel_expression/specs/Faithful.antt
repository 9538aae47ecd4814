-- What the image of an expression does.
use Rattle.std.specs.Prelude.{◌≡◌, Ok}
use Rattle.cel_check.specs.declared.tree.TypedTree.{TypedTree}
use Rattle.cel_check.specs.Typing.{types_in}
use Rattle.cel_code.specs.declared.image.Image.{Image}
use Rattle.cel_expression.specs.Correct.{Computes, Preserves}
use Rattle.cel_estimate.specs.Estimate.{estimate_of}
use Rattle.cel_expression.specs.Source.{Source}
use Rattle.cel_expression.specs.Expressions.{accepted_of}
use Rattle.cel_expression.specs.Stages.{Bounds}

-- its run gives the value or error of the source's tree, for what that costs; if the slots hold what fits the names, the
-- tree has one, of its type, and costs no more than its estimate
pub record IsFaithful (source : Source) (image : Image) : Type 0 where
  pub tree : TypedTree
  pub accepted : accepted_of source ≡ Ok tree
  pub computes : Computes image tree
  pub preserves : Preserves (types_in source.names) tree
  pub bounds : Bounds (types_in source.names) tree (estimate_of tree)
