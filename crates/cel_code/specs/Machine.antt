-- What the machine does with an image, one instruction at a time.
use Rattle.std.specs.Prelude.{◌≡◌, ℕ, zero, suc, ◌+◌, true, false, List, [], ◌∷◌, Option, Some, None, Result, Ok, Err, slice_get}
use Rattle.cel_value.specs.declared.value.Value.{Value, out-Value}
use Rattle.cel_operators.specs.declared.operator.Operator.{Operator}
use Rattle.cel_code.specs.declared.instr.Instr.{Instr}
use Rattle.cel_code.specs.declared.instr.Instr.TheVariants.{Const, Op, WithText, AndTest, OrTest, And, Or, Cond, Jump, End, Slot, Local}
use Rattle.cel_code.specs.declared.instr.Instr.TheVariants.{Item, When}
use Rattle.cel_code.specs.declared.instr.Instr.TheVariants as instr
use Rattle.cel_code.specs.declared.image.Image.{Image}
use Rattle.cel_operators.specs.Outcomes.{Outcome, Side, and_of, or_of, both_sides}
use Rattle.cel_operators.specs.Wants.{side_of, taken}
use Rattle.cel_operators.specs.declared.operands.Want.TheVariants.{Ranged}
use Rattle.cel_code.specs.LoopNumbers.{loop_kind}
use Rattle.cel_operators.specs.Loops.{Turn, Closes, GoesOn, nothing_yet, turn, result_of}
use Rattle.cel_operators.specs.declared.accumulator.Accumulator.{Accumulator}
use Rattle.cel_value.specs.declared.expr.Loop.{Loop}
use Rattle.cel_value.specs.declared.expr.Loop.TheVariants.{Map}
use Rattle.cel_value.specs.declared.cel_error.CelError.{CelError}
use Rattle.cel_operators.specs.declared.operator.Made.{Made}
use Rattle.cel_operators.specs.Operators.{Row, One, Two, row, operator_of, at_one, at_two}
use Rattle.cel_operators.specs.Lists.{list_made}
use Rattle.cel_operators.specs.Maps.{map_made}
use Rattle.cel_operators.specs.TextOperators.{row_with}
use Rattle.cel_operators.specs.declared.text_operator.TextOperator.{TextOperator}
use Rattle.cel_operators.specs.Joined.{text_at}

-- an open loop: the number of its LOOP and where it leads, what it makes of its items, the item at which it is, those that
-- are left, and what it has gathered
pub record Frame : Type 0 where
  pub start : ℕ
  pub exit : ℕ
  pub mode : Loop
  pub item : Value
  pub left : List Value
  pub gathered : Accumulator

-- the number of the next instruction, the stack of values and errors, the top first, and the open loops, the innermost first
pub record State : Type 0 where
  pub at : ℕ
  pub stack : List Outcome
  pub frames : List Frame

-- a state by its parts
abbrev pub on : ℕ → List Outcome → List Frame → State
on at stack frames = record { at = at; stack = stack; frames = frames }

-- what an instruction reads in addition to the state: the image's constants, and what the slots hold
pub record Inputs : Type 0 where
  pub constants : List Value
  pub slots : List Outcome

-- a step goes on for a charge, or ends with an outcome; it is stuck if an operand is missing or of a kind that the
-- instruction does not take, if a constant or a slot is missing, or if there is no instruction
pub data Next : Type 0 where
  Goes : (charge : ℕ) → (to : State) → Next
  Ends : (outcome : Outcome) → Next
  Stuck : Next

-- on top of the stack, and on to the next instruction
abbrev pub push : Option Outcome → ℕ → List Outcome → List Frame → Next
push None at stack frames = Stuck
push (Some x) at stack frames = Goes 0 (on (at + 1) (x ∷ stack) frames)

-- a constant as what is pushed
abbrev pub constant : Option Value → Option Outcome
constant None = None
constant (Some v) = Some (Ok v)

-- what a slot or an open loop holds, for a charge of 1
abbrev pub slot : Option Outcome → ℕ → List Outcome → List Frame → Next
slot None at stack frames = Stuck
slot (Some x) at stack frames = Goes 1 (on (at + 1) (x ∷ stack) frames)

-- an operator's answer, for its charge
abbrev pub made : Option Made → ℕ → List Outcome → List Frame → Next
made None at stack frames = Stuck
made (Some m) at stack frames = Goes m.charge (on (at + 1) (m.outcome ∷ stack) frames)

-- a row of the operators at the operands on the stack
abbrev pub operate : Row → ℕ → List Outcome → List Frame → Next
operate (One w r) at (x ∷ stack) frames = made (at_one (One w r) (Some x)) at stack frames
operate (Two v w r) at (y ∷ x ∷ stack) frames = made (at_two (Two v w r) (Some x) (Some y)) at stack frames
operate _ at _ frames = Stuck

-- the operator of a number, if there is one
abbrev pub operate_by : Option Operator → ℕ → List Outcome → List Frame → Next
operate_by None at stack frames = Stuck
operate_by (Some op) at stack frames = operate (row op) at stack frames

-- the text that a constant is, if it is one
abbrev pub constant_text : Option Value → Option (List ℕ)
constant_text None = None
constant_text (Some v) = text_at (out-Value v)

-- an operator with a text, if there is one
abbrev pub operate_with : TextOperator → Option (List ℕ) → ℕ → List Outcome → List Frame → Next
operate_with op None at stack frames = Stuck
operate_with op (Some text) at stack frames = operate (row_with op text) at stack frames

-- so many off the top of a stack, in front of those that were taken before, and what is below; None if there are fewer
abbrev pub taken_off : {A : Type 0} → ℕ → List A → List A → Option (List A × List A)
taken_off zero taken stack = Some (taken, stack)
taken_off (suc n) taken [] = None
taken_off (suc n) taken (x ∷ stack) = taken_off n (x ∷ taken) stack

-- the list of what was taken, on what is below
abbrev pub listed : Option (List Outcome × List Outcome) → ℕ → List Frame → Next
listed None at frames = Stuck
listed (Some p) at frames = made (Some (list_made p.0)) at p.1 frames

-- the map of what was taken, keys and values by turns, on what is below
abbrev pub mapped : Option (List Outcome × List Outcome) → ℕ → List Frame → Next
mapped None at frames = Stuck
mapped (Some p) at frames = made (map_made p.0) at p.1 frames

-- a false left of `&&` jumps; the stack stays
abbrev pub and_test : Option Side → ℕ → ℕ → List Outcome → List Frame → Next
and_test None to at stack frames = Stuck
and_test (Some (Ok false)) to at stack frames = Goes 1 (on to stack frames)
and_test (Some (Ok true)) to at stack frames = Goes 1 (on (at + 1) stack frames)
and_test (Some (Err e)) to at stack frames = Goes 1 (on (at + 1) stack frames)

-- a true left of `||` jumps; the stack stays
abbrev pub or_test : Option Side → ℕ → ℕ → List Outcome → List Frame → Next
or_test None to at stack frames = Stuck
or_test (Some (Ok true)) to at stack frames = Goes 1 (on to stack frames)
or_test (Some (Ok false)) to at stack frames = Goes 1 (on (at + 1) stack frames)
or_test (Some (Err e)) to at stack frames = Goes 1 (on (at + 1) stack frames)

-- both sides joined
abbrev pub joined : Option Outcome → ℕ → List Outcome → List Frame → Next
joined None at stack frames = Stuck
joined (Some x) at stack frames = Goes 0 (on (at + 1) (x ∷ stack) frames)

-- both sides, if both are sides
abbrev pub join : (Side → Side → Outcome) → Option Side → Option Side → Option Outcome
join f None y = None
join f (Some x) y = both_sides f x y

-- a condition goes on, to the other branch, or with its error after both
abbrev pub branch : Option Side → ℕ → ℕ → ℕ → List Outcome → List Frame → Next
branch None if_false if_error at stack frames = Stuck
branch (Some (Ok true)) if_false if_error at stack frames = Goes 1 (on (at + 1) stack frames)
branch (Some (Ok false)) if_false if_error at stack frames = Goes 1 (on if_false stack frames)
branch (Some (Err e)) if_false if_error at stack frames = Goes 1 (on if_error (Err e ∷ stack) frames)

-- the item of an open loop
abbrev pub item_of : Option Frame → Option Outcome
item_of None = None
item_of (Some f) = Some (Ok f.item)

-- a loop that is opened over these items
abbrev pub frame : ℕ → ℕ → Loop → Value → List Value → Frame
frame start exit l v vs = record { start = start; exit = exit; mode = l; item = v; left = v ∷ vs; gathered = nothing_yet }

-- a range: its error, or the result of no items, goes where the loop leads; else the loop is opened
abbrev pub opened : Loop → Option (Result (List Value) CelError) → ℕ → ℕ → List Outcome → List Frame → Next
opened l None exit at stack frames = Stuck
opened l (Some (Err e)) exit at stack frames = Goes 1 (on exit (Err e ∷ stack) frames)
opened l (Some (Ok [])) exit at stack frames = Goes 1 (on exit (result_of l nothing_yet ∷ stack) frames)
opened l (Some (Ok (v ∷ vs))) exit at stack frames = Goes 1 (on (at + 1) stack (frame at exit l v vs ∷ frames))

-- a loop of the kind of a number, if there is one
abbrev pub opened_by : Option Loop → Option (Result (List Value) CelError) → ℕ → ℕ → List Outcome → List Frame → Next
opened_by None range exit at stack frames = Stuck
opened_by (Some l) range exit at stack frames = opened l range exit at stack frames

-- the next item
abbrev pub item_taken : Frame → List Value → ℕ → List Outcome → List Frame → Next
item_taken f [] at stack frames = Stuck
item_taken f (v ∷ vs) at stack frames = Goes 1 (on (at + 1) stack (record f { item = v; left = vs } ∷ frames))

-- after an item: the next one, or the loop's result if none is left
abbrev pub gone_on : Frame → List Value → Accumulator → List Outcome → List Frame → Next
gone_on f [] a stack frames = Goes 0 (on f.exit (result_of f.mode a ∷ stack) frames)
gone_on f (v ∷ vs) a stack frames = Goes 0 (on (f.start + 1) stack (record f { gathered = a } ∷ frames))

-- a turn: the loop ends, or goes on with what it has gathered
abbrev pub turned : Frame → Option Turn → List Outcome → List Frame → Next
turned f None stack frames = Stuck
turned f (Some (Closes x)) stack frames = Goes 0 (on f.exit (x ∷ stack) frames)
turned f (Some (GoesOn a)) stack frames = gone_on f f.left a stack frames

-- the predicate of `map`: a true goes on to the transform, a false drops the item, and an error ends the loop
abbrev pub tested : Frame → Option Side → ℕ → List Outcome → List Frame → Next
tested f None at stack frames = Stuck
tested f (Some (Ok true)) at stack frames = Goes 0 (on (at + 1) stack (f ∷ frames))
tested f (Some (Ok false)) at stack frames = gone_on f f.left f.gathered stack frames
tested f (Some (Err e)) at stack frames = Goes 0 (on f.exit (Err e ∷ stack) frames)

-- a predicate occurs only in a `map`
abbrev pub tested_in : Loop → Frame → Outcome → ℕ → List Outcome → List Frame → Next
tested_in Map f x at stack frames = tested f (side_of (Some x)) at stack frames
tested_in _ f x at stack frames = Stuck

-- one instruction
abbrev pub act : Inputs → Instr → ℕ → List Outcome → List Frame → Next
act inputs (Const k) at stack frames = push (constant (slice_get inputs.constants k)) at stack frames
act inputs (Slot n) at stack frames = slot (slice_get inputs.slots n) at stack frames
act inputs (Local d) at stack frames = slot (item_of (slice_get frames d)) at stack frames
act inputs (Op o) at stack frames = operate_by (operator_of o) at stack frames
act inputs (WithText op k) at stack frames = operate_with op (constant_text (slice_get inputs.constants k)) at stack frames
act inputs (instr.List n) at stack frames = listed (taken_off n [] stack) at frames
act inputs (instr.Map n) at stack frames = mapped (taken_off (n + n) [] stack) at frames
act inputs (AndTest to) at (x ∷ stack) frames = and_test (side_of (Some x)) to at (x ∷ stack) frames
act inputs (OrTest to) at (x ∷ stack) frames = or_test (side_of (Some x)) to at (x ∷ stack) frames
act inputs And at (y ∷ x ∷ stack) frames = joined (join and_of (side_of (Some x)) (side_of (Some y))) at stack frames
act inputs Or at (y ∷ x ∷ stack) frames = joined (join or_of (side_of (Some x)) (side_of (Some y))) at stack frames
act inputs (Cond if_false if_error) at (x ∷ stack) frames = branch (side_of (Some x)) if_false if_error at stack frames
act inputs (Jump to) at stack frames = Goes 0 (on to stack frames)
act inputs (instr.Loop n exit) at (x ∷ stack) frames = opened_by (loop_kind n) (taken Ranged (Some x)) exit at stack frames
act inputs Item at stack (f ∷ frames) = item_taken f f.left at stack frames
act inputs When at (x ∷ stack) (f ∷ frames) = tested_in f.mode f x at stack frames
act inputs instr.Next at (x ∷ stack) (f ∷ frames) = turned f (turn f.mode f.item f.gathered (Some x)) stack frames
act inputs End at (x ∷ stack) frames = Ends x
act inputs _ at _ frames = Stuck

-- the instruction at a place, if there is one
abbrev pub act_at : Inputs → Option Instr → ℕ → List Outcome → List Frame → Next
act_at inputs None at stack frames = Stuck
act_at inputs (Some i) at stack frames = act inputs i at stack frames

-- what an image reads if its slots hold these
abbrev pub inputs_of : Image → List Outcome → Inputs
inputs_of image slots = record { constants = image.constants; slots = slots }

-- one step
abbrev pub step : Image → List Outcome → State → Next
step image slots s = act_at (inputs_of image slots) (slice_get image.code s.at) s.at s.stack s.frames

-- the machine gets from a state to another, in so many steps for so great a charge
pub data Gets (image : Image) (slots : List Outcome) : State → State → ℕ → ℕ → Type 0 where
  Stays : {s t : State} {charge steps : ℕ} → s ≡ t → charge ≡ 0 → steps ≡ 0 → Gets image slots s t charge steps
  Moves : {s t : State} {charge steps : ℕ} (m : State) (c d n : ℕ) → step image slots s ≡ Goes c m → Gets image slots m t d n
      → charge ≡ c + d → steps ≡ n + 1 → Gets image slots s t charge steps

-- the run from the first instruction: its outcome, what it charges, and its steps
pub record Run (image : Image) (slots : List Outcome) (outcome : Outcome) (charged steps : ℕ) : Type 0 where
  pub last : State
  pub before : ℕ
  pub gets : Gets image slots (on 0 [] []) last charged before
  pub ends : step image slots last ≡ Ends outcome
  pub count : steps ≡ before + 1
