-- How many operands an image needs at most.
use Rattle.std.specs.Prelude.{ℕ, zero, suc, ◌+◌, ◌≤◌, max, List, [], length, Option, Some, None}
use Rattle.cel_code.specs.declared.image.Image.{Image}
use Rattle.cel_operators.specs.Outcomes.{Outcome}
use Rattle.cel_code.specs.Machine.{State, on, Gets}
use Rattle.cel_verify.specs.StackTypes.{StackTypes}
use Rattle.cel_verify.specs.Sound.{label_at, below_all}

-- the operands of a label's types
abbrev pub operands_of : Option StackTypes → ℕ
operands_of None = 0
operands_of (Some ts) = length ts

-- the operands at an instruction, with those below the open loops
abbrev pub depth_at : Image → ℕ → ℕ
depth_at image at = operands_of (label_at image at).types + length (below_all (label_at image at).opens)

-- the most operands at any of the first instructions
abbrev pub deepest : Image → ℕ → ℕ
deepest image zero = 0
deepest image (suc n) = max (deepest image n) (depth_at image n)

-- the most operands at any instruction
abbrev pub greatest_depth : Image → ℕ
greatest_depth image = deepest image (length image.code)

-- no state that the machine reaches has more operands than this
abbrev pub NeverMore : Image → List Outcome → ℕ → Type 0
NeverMore image slots most = (s : State) (charge steps : ℕ) → Gets image slots (on 0 [] []) s charge steps → length s.stack ≤ most

-- the most loops open at any of the first instructions
abbrev pub most_open : Image → ℕ → ℕ
most_open image zero = 0
most_open image (suc n) = max (most_open image n) (length (label_at image n).opens)

-- the most loops open at any instruction
abbrev pub greatest_nesting : Image → ℕ
greatest_nesting image = most_open image (length image.code)

-- no state that the machine reaches has more loops open than this
abbrev pub NeverMoreLoops : Image → List Outcome → ℕ → Type 0
NeverMoreLoops image slots most =
    (s : State) (charge steps : ℕ) → Gets image slots (on 0 [] []) s charge steps → length s.frames ≤ most
