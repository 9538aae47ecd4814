-- What a compiled expression holds.
use Rattle.std.specs.Prelude.{◌≡◌, ◌≤◌, Ok}
use Rattle.cel_check.specs.declared.tree.TypedTree.{TypedTree}
use Rattle.cel_check.specs.Meaning.{type_of}
use Rattle.cel_check.specs.Typing.{types_in}
use Rattle.cel_expression.specs.Compiled.{IsCompiled as IsImageOf}
use Rattle.cel_expression.specs.Correct.{Computes, Preserves}
use Rattle.cel_estimate.specs.Estimate.{estimate_of, budget}
use Rattle.cel_expression.specs.Source.{Source}
use Rattle.cel_expression.specs.Expressions.{accepted_of}
use Rattle.cel_expression.specs.Stages.{Bounds}
use Rattle.cel_expression.specs.declared.compiled.Compiled.TheInside.{Inside}

-- the source of a compiled expression
abbrev pub source_of : Inside → Source
source_of c = record { choice = c.choice; names = c.names; text = c.text }

-- its source may be run, and its program is the image of it and does what the source says
pub record IsCompiled (c : Inside) : Type 0 where
  pub tree : TypedTree
  pub is : accepted_of (source_of c) ≡ Ok tree
  pub type : c.cel_type ≡ type_of tree
  pub estimate : c.estimate ≡ estimate_of tree
  pub within : c.estimate ≤ budget
  pub slots : c.program.slots ≡ types_in c.names
  pub image : IsImageOf c.program tree (types_in c.names)
  pub computes : Computes c.program tree
  pub preserves : Preserves (types_in c.names) tree
  pub bounds : Bounds (types_in c.names) tree c.estimate
