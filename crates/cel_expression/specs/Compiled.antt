-- The image that an expression compiles to.
use Rattle.std.specs.Prelude.{◌≡◌, ℕ, ◌+◌, Bool, true, false, List, None}
use Rattle.std.specs.Prelude.{[], ◌∷◌, ◌++◌, length, Contains, if◌then◌else◌}
use Rattle.cel_value.specs.declared.cel_type.CelType.{CelType}
use Rattle.cel_value.specs.declared.value.Value.{Value}
use Rattle.cel_value.specs.declared.value.Value as value
use Rattle.cel_check.specs.declared.tree.TypedTree.{TypedTree, fold-TypedTree}
use Rattle.cel_check.specs.declared.tree.TypedTree.TheOpen.{TypedTree-F}
use Rattle.cel_check.specs.declared.tree.Form.{Form}
use Rattle.cel_check.specs.declared.tree.Form.TheVariants.{Literal, Unary, Binary, And, Or, Conditional, ListOf, MapOf, WithText, Slot}
use Rattle.cel_check.specs.declared.tree.Form.TheVariants.{Local, Loop, MapWhere}
use Rattle.cel_code.specs.declared.instr.Instr.TheVariants.{End}
use Rattle.cel_code.specs.declared.image.Image.{Image}
use Rattle.cel_code.specs.declared.image.Target.{Target}
use Rattle.cel_check.specs.Meaning.{type_of}
use Rattle.cel_value.specs.Turns.{by_turns}
use Rattle.cel_expression.specs.Placed.{code_in, Has, Stands}

-- the values of a list, each once, in the order in which they come first: of nothing there are none, a last value that is
-- new is the last of them, and a last value that is one of them already adds nothing
pub data EachOnce : List Value → List Value → Type 0 where
  nothing : {all once : List Value} → all ≡ [] → once ≡ [] → EachOnce all once
  first : {all once : List Value} (vs us : List Value) (v : Value) → EachOnce vs us → ¬ Contains us v
      → all ≡ vs ++ v ∷ [] → once ≡ us ++ v ∷ [] → EachOnce all once
  again : {all once : List Value} (vs : List Value) (v : Value) → EachOnce vs once → Contains once v
      → all ≡ vs ++ v ∷ [] → EachOnce all once

-- an expression as its type, the number of its instructions, its literals from left to right, whether jumps go to its end
-- (after its last instruction), and its targets before its end, if it begins at a place and is over operands of
-- some types, the bottom first
pub record Layout : Type 0 where
  pub type : CelType
  pub size : ℕ
  pub literals : List Value
  pub joins : Bool
  pub within : ℕ → List CelType → List Target

-- how many instructions several have
abbrev pub sizes_of : List Layout → ℕ
sizes_of [] = 0
sizes_of (a ∷ xs) = a.size + sizes_of xs

-- how many instructions a level has
abbrev pub size_at : Form Layout → ℕ
size_at (Literal v) = 1
size_at (Slot n) = 1
size_at (Local d) = 1
size_at (Unary op a) = a.size + 1
size_at (Binary op a b) = a.size + b.size + 1
size_at (And a b) = a.size + 1 + b.size + 1
size_at (Or a b) = a.size + 1 + b.size + 1
size_at (Conditional c a b) = c.size + 1 + a.size + 1 + b.size
size_at (ListOf xs) = sizes_of xs + 1
size_at (MapOf es) = sizes_of (by_turns es) + 1
size_at (WithText op a text) = a.size + 1
size_at (Loop l a b) = a.size + 2 + b.size + 1
size_at (MapWhere a p b) = a.size + 2 + p.size + 1 + b.size + 1

-- the literals of several, from left to right
abbrev pub literals_of : List Layout → List Value
literals_of [] = []
literals_of (a ∷ xs) = a.literals ++ literals_of xs

-- the literals of a level, from left to right
abbrev pub literals_at : Form Layout → List Value
literals_at (Literal v) = v ∷ []
literals_at (Slot n) = []
literals_at (Local d) = []
literals_at (Unary op a) = a.literals
literals_at (Binary op a b) = a.literals ++ b.literals
literals_at (And a b) = a.literals ++ b.literals
literals_at (Or a b) = a.literals ++ b.literals
literals_at (Conditional c a b) = c.literals ++ a.literals ++ b.literals
literals_at (ListOf xs) = literals_of xs
literals_at (MapOf es) = literals_of (by_turns es)
literals_at (WithText op a text) = a.literals ++ value.Text text ∷ []
literals_at (Loop l a b) = a.literals ++ b.literals
literals_at (MapWhere a p b) = a.literals ++ p.literals ++ b.literals

-- whether jumps of a level go to its end
abbrev pub joins_at : {A : Type 0} → Form A → Bool
joins_at (And a b) = true
joins_at (Or a b) = true
joins_at (Conditional c a b) = true
joins_at (Loop l a b) = true
joins_at (MapWhere a p b) = true
joins_at _ = false

-- a place that jumps go to, with the types of the stack there
abbrev pub target : ℕ → List CelType → Target
target at types = record { at = at; types = types }

-- the end of an expression, if jumps go to it: the expression's type is on top
abbrev pub target_at_end : Layout → ℕ → List CelType → List Target
target_at_end e from below = if e.joins then target (from + e.size) (below ++ e.type ∷ []) ∷ [] else []

-- all targets of an expression, those before its end and its end
abbrev pub targets_from : Layout → ℕ → List CelType → List Target
targets_from e from below = e.within from below ++ target_at_end e from below

-- the targets of several one after another, each over those before it
abbrev pub targets_of : List Layout → ℕ → List CelType → List Target
targets_of [] from below = []
targets_of (a ∷ xs) from below = targets_from a from below ++ targets_of xs (from + a.size) (below ++ a.type ∷ [])

-- the targets of a second branch: where it begins, with nothing more on the stack, and those before its end. It ends where
-- the conditional does, and there the type of the conditional counts
abbrev pub second_branch : Layout → ℕ → List CelType → List Target
second_branch e from below = target from below ∷ e.within from below

-- the targets of a level before its end, from left to right; a right operand is over the left one, and the body of a
-- loop over nothing, since the types of a target are those above the innermost loop
abbrev pub within_at : Form Layout → ℕ → List CelType → List Target
within_at (Literal v) from below = []
within_at (Slot n) from below = []
within_at (Local d) from below = []
within_at (Unary op a) from below = targets_from a from below
within_at (Binary op a b) from below = targets_from a from below ++ targets_from b (from + a.size) (below ++ a.type ∷ [])
within_at (And a b) from below = targets_from a from below ++ targets_from b (from + a.size + 1) (below ++ a.type ∷ [])
within_at (Or a b) from below = targets_from a from below ++ targets_from b (from + a.size + 1) (below ++ a.type ∷ [])
within_at (Conditional c a b) from below =
    targets_from c from below ++ targets_from a (from + c.size + 1) below ++ second_branch b (from + c.size + 1 + a.size + 1) below
within_at (ListOf xs) from below = targets_of xs from below
within_at (MapOf es) from below = targets_of (by_turns es) from below
within_at (WithText op a text) from below = targets_from a from below
within_at (Loop l a b) from below = targets_from a from below ++ targets_from b (from + a.size + 2) []
within_at (MapWhere a p b) from below =
    targets_from a from below ++ targets_from p (from + a.size + 2) [] ++ targets_from b (from + a.size + 2 + p.size + 1) []

-- a node by the layouts of its parts
abbrev pub layout_step : TypedTree-F Layout → Layout
layout_step t = record {
  type = t.cel_type;
  size = size_at t.form;
  literals = literals_at t.form;
  joins = joins_at t.form;
  within = within_at t.form;
}

-- how an expression is laid out
abbrev pub layout_of : TypedTree → Layout
layout_of = fold-TypedTree Layout layout_step

-- the image of an expression with slots of these types: its instructions and END and no other, its literals, each once, in the
-- order of their first use, the targets of its jumps, and its type; it declares nothing
pub record IsCompiled (image : Image) (tree : TypedTree) (types : List CelType) : Type 0 where
  pub stands : Stands (code_in image) tree 0 (layout_of tree).size
  pub ends : Has (code_in image) (layout_of tree).size End
  pub whole : length image.code ≡ (layout_of tree).size + 1
  pub constants : EachOnce (layout_of tree).literals image.constants
  pub targets : image.targets ≡ targets_from (layout_of tree) 0 []
  pub slots : image.slots ≡ types
  pub result : image.result ≡ type_of tree
  pub declared : image.declared ≡ None
