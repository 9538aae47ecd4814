-- Where the instructions of an expression are in an image.
use Rattle.std.specs.Prelude.{◌≡◌, ℕ, ◌+◌, ◌<◌, ◌≤◌, List, []}
use Rattle.std.specs.Prelude.{◌∷◌, ◌++◌, length, Some, slice_get, slice_set}
use Rattle.cel_value.specs.declared.value.Value.{Value}
use Rattle.cel_value.specs.declared.value.Value as value
use Rattle.cel_value.specs.declared.expr.Entry.{Entry}
use Rattle.cel_operators.specs.declared.text_operator.TextOperator.{TextOperator}
use Rattle.cel_operators.specs.declared.operator.Operator.{Operator}
use Rattle.cel_check.specs.declared.tree.TypedTree.{TypedTree}
use Rattle.cel_check.specs.declared.tree.Form.TheVariants as form
use Rattle.cel_code.specs.declared.instr.Instr.{Instr}
use Rattle.cel_code.specs.declared.instr.Instr.TheVariants.{Const, Op, WithText, AndTest, OrTest, And, Or, Cond, Jump, Slot, Local, Item}
use Rattle.cel_code.specs.declared.instr.Instr.TheVariants.{When}
use Rattle.cel_code.specs.declared.instr.Instr.TheVariants as instr
use Rattle.cel_code.specs.declared.image.Image.{Image}
use Rattle.cel_value.specs.declared.expr.Loop.{Loop}
use Rattle.cel_value.specs.declared.expr.Loop.TheVariants as loop
use Rattle.cel_code.specs.LoopNumbers.{loop_number}
use Rattle.cel_check.specs.Meaning.{IsForm}
use Rattle.cel_value.specs.Turns.{by_turns}
use Rattle.cel_operators.specs.Operators.{code_of}

-- what the machine reads of an image: constants and instructions
pub record Code : Type 0 where
  pub constants : List Value
  pub instrs : List Instr

-- the constants and instructions of an image
abbrev pub code_in : Image → Code
code_in image = record { constants = image.constants; instrs = image.code }

-- one instruction more
abbrev pub with_instr : Code → Instr → Code
with_instr code i = record code { instrs = code.instrs ++ i ∷ [] }

-- another instruction at a place
abbrev pub patched : Code → ℕ → Instr → Code
patched code at i = record code { instrs = slice_set code.instrs at i }

-- a constant has a number, and no constant is lost
pub record Interns (old new : Code) (v : Value) (number : ℕ) : Type 0 where
  pub instrs : new.instrs ≡ old.instrs
  pub constant : slice_get new.constants number ≡ Some v
  pub kept : (k : ℕ) (w : Value) → slice_get old.constants k ≡ Some w → slice_get new.constants k ≡ Some w

-- an instruction is at a place
pub record Has (code : Code) (at : ℕ) (i : Instr) : Type 0 where
  pub is : slice_get code.instrs at ≡ Some i

-- a constant is pushed
pub record Pushes (code : Code) (from to : ℕ) (v : Value) : Type 0 where
  pub number : ℕ
  pub instr : Has code from (Const number)
  pub constant : slice_get code.constants number ≡ Some v
  pub next : to ≡ from + 1

-- an operator with a text is at a place
pub record HasText (code : Code) (at : ℕ) (op : TextOperator) (text : List ℕ) : Type 0 where
  pub number : ℕ
  pub instr : Has code at (WithText op number)
  pub constant : slice_get code.constants number ≡ Some (value.Text text)

-- a loop begins at a place, whose body takes an item first, and leads to another place
pub record OpensLoop (code : Code) (at : ℕ) (l : Loop) (exit : ℕ) : Type 0 where
  pub begins : Has code at (instr.Loop (loop_number l) exit)
  pub item : Has code (at + 1) Item

mutual
  -- the instructions of an expression are those from one place up to another
  pub data Stands (code : Code) : TypedTree → ℕ → ℕ → Type 0 where
    literal : {e : TypedTree} {from to : ℕ} (v : Value) → IsForm e (form.Literal v) → Pushes code from to v → Stands code e from to
    slot : {e : TypedTree} {from to : ℕ} (n : ℕ) → IsForm e (form.Slot n) → Has code from (Slot n) → to ≡ from + 1 → Stands code e from to
    unary : {e : TypedTree} {from to : ℕ} (op : Operator) (a : TypedTree) (m : ℕ) → IsForm e (form.Unary op a) → Stands code a from m
        → Has code m (Op (code_of op)) → to ≡ m + 1 → Stands code e from to
    binary : {e : TypedTree} {from to : ℕ} (op : Operator) (a b : TypedTree) (m n : ℕ) → IsForm e (form.Binary op a b)
        → Stands code a from m → Stands code b m n → Has code n (Op (code_of op)) → to ≡ n + 1 → Stands code e from to
    both : {e : TypedTree} {from to : ℕ} (a b : TypedTree) (m n : ℕ) → IsForm e (form.And a b) → Stands code a from m
        → Has code m (AndTest to) → Stands code b (m + 1) n → Has code n And → to ≡ n + 1 → Stands code e from to
    either : {e : TypedTree} {from to : ℕ} (a b : TypedTree) (m n : ℕ) → IsForm e (form.Or a b) → Stands code a from m
        → Has code m (OrTest to) → Stands code b (m + 1) n → Has code n Or → to ≡ n + 1 → Stands code e from to
    conditional : {e : TypedTree} {from to : ℕ} (c a b : TypedTree) (m n : ℕ) → IsForm e (form.Conditional c a b) → Stands code c from m
        → Has code m (Cond (n + 1) to) → Stands code a (m + 1) n → Has code n (Jump to) → Stands code b (n + 1) to → Stands code e from to
    items : {e : TypedTree} {from to : ℕ} (xs : List TypedTree) (m : ℕ) → IsForm e (form.ListOf xs) → StandEach code xs from m
        → Has code m (instr.List (length xs)) → to ≡ m + 1 → Stands code e from to
    entries : {e : TypedTree} {from to : ℕ} (es : List (Entry TypedTree)) (m : ℕ) → IsForm e (form.MapOf es)
        → StandEach code (by_turns es) from m → Has code m (instr.Map (length es)) → to ≡ m + 1 → Stands code e from to
    with_text : {e : TypedTree} {from to : ℕ} (op : TextOperator) (a : TypedTree) (text : List ℕ) (m : ℕ)
        → IsForm e (form.WithText op a text) → Stands code a from m → HasText code m op text → to ≡ m + 1 → Stands code e from to
    local : {e : TypedTree} {from to : ℕ} (d : ℕ) → IsForm e (form.Local d) → Has code from (Local d) → to ≡ from + 1
        → Stands code e from to
    looped : {e : TypedTree} {from to : ℕ} (l : Loop) (a b : TypedTree) (m n : ℕ) → IsForm e (form.Loop l a b) → Stands code a from m
        → OpensLoop code m l to → Stands code b (m + 2) n → Has code n instr.Next → to ≡ n + 1 → Stands code e from to
    mapped : {e : TypedTree} {from to : ℕ} (a p b : TypedTree) (m k n : ℕ) → IsForm e (form.MapWhere a p b) → Stands code a from m
        → OpensLoop code m loop.Map to → Stands code p (m + 2) k → Has code k When → Stands code b (k + 1) n → Has code n instr.Next
        → to ≡ n + 1 → Stands code e from to

  -- the instructions of several expressions are one after another
  pub data StandEach (code : Code) : List TypedTree → ℕ → ℕ → Type 0 where
    no_items : {xs : List TypedTree} {from to : ℕ} → xs ≡ [] → to ≡ from → StandEach code xs from to
    first_item : {xs : List TypedTree} {from to : ℕ} (a : TypedTree) (rest : List TypedTree) (m : ℕ) → xs ≡ a ∷ rest → Stands code a from m
        → StandEach code rest m to → StandEach code xs from to

-- from one place up to another the same instructions are in both, and no constant is lost
pub record Same (old new : Code) (from to : ℕ) : Type 0 where
  pub instr : (i : ℕ) → from ≤ i → i < to → slice_get new.instrs i ≡ slice_get old.instrs i
  pub constant : (k : ℕ) (v : Value) → slice_get old.constants k ≡ Some v → slice_get new.constants k ≡ Some v

-- what was there before is still there
pub record Keeps (old new : Code) : Type 0 where
  pub grows : length old.instrs ≤ length new.instrs
  pub same : Same old new 0 (length old.instrs)

-- what is written for an expression is after what was there before
pub record Emits (old new : Code) (e : TypedTree) : Type 0 where
  pub stands : Stands new e (length old.instrs) (length new.instrs)
  pub keeps : Keeps old new

-- what is written for several expressions is after what was there before
pub record EmitsEach (old new : Code) (xs : List TypedTree) : Type 0 where
  pub stands : StandEach new xs (length old.instrs) (length new.instrs)
  pub keeps : Keeps old new
