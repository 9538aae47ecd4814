-- Code that is being written.
use Rattle.std.specs.Prelude.{◌≡◌, ℕ, ◌+◌, List, ◌++◌, length, map}
use Rattle.cel_value.specs.declared.cel_type.CelType.{CelType}
use Rattle.cel_value.specs.declared.value.Value.{Value}
use Rattle.cel_check.specs.declared.tree.TypedTree.{TypedTree}
use Rattle.cel_expression.specs.declared.compiler.Draft.{Draft}
use Rattle.cel_code.specs.declared.image.Target.{Target}
use Rattle.cel_check.specs.Typing.{root_types}
use Rattle.cel_expression.specs.Compiled.{EachOnce, Layout, layout_of, sizes_of, literals_of, targets_of, targets_from}
use Rattle.cel_expression.specs.Placed.{Code}

-- the constants and the instructions so far
abbrev pub drafted : Draft → Code
drafted draft = record { constants = draft.constants; instrs = draft.code }

-- so many more instructions are written, for these literals, and these targets
pub record Grows (old new : Draft) (count : ℕ) (literals : List Value) (more : List Target) : Type 0 where
  pub size : length new.code ≡ length old.code + count
  pub constants : (before : List Value) → EachOnce before old.constants → EachOnce (before ++ literals) new.constants
  pub targets : new.targets ≡ old.targets ++ more
  pub below : new.below ≡ old.below

-- an expression is written over operands of these types, without the target at its end
pub record WritesWithin (old new : Draft) (e : TypedTree) (below : List CelType) : Type 0 where
  pub grows : Grows old new (layout_of e).size (layout_of e).literals ((layout_of e).within (length old.code) below)

-- an expression is written over operands of these types
pub record Writes (old new : Draft) (e : TypedTree) (below : List CelType) : Type 0 where
  pub grows : Grows old new (layout_of e).size (layout_of e).literals (targets_from (layout_of e) (length old.code) below)

-- the layouts of several expressions
abbrev pub layouts_of : List TypedTree → List Layout
layouts_of xs = map layout_of xs

-- expressions are written one after another, each over the types of those before it, which stay
pub record WritesEach (old new : Draft) (xs : List TypedTree) : Type 0 where
  pub size : length new.code ≡ length old.code + sizes_of (layouts_of xs)
  pub constants : (before : List Value) → EachOnce before old.constants → EachOnce (before ++ literals_of (layouts_of xs)) new.constants
  pub targets : new.targets ≡ old.targets ++ targets_of (layouts_of xs) (length old.code) old.below
  pub below : new.below ≡ old.below ++ root_types xs
