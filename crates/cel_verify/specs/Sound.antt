-- Sound images: each instruction has a label, the types of the stack there and the open loops, and keeps its rule at it.
use Rattle.std.specs.Prelude.{◌≡◌, ℕ, zero, suc, ◌+◌, ◌-◌, ◌<◌, Bool, true, false, not, ◌++◌}
use Rattle.std.specs.Prelude.{◌&&◌, ◌||◌, nat_eq, nat_lt, nat_le, List, [], ◌∷◌, reverse, length}
use Rattle.std.specs.Prelude.{slice_get, if◌then◌else◌, Option, Some, None, Result, Ok, Err}
use Rattle.cel_value.specs.declared.cel_type.CelType.{CelType}
use Rattle.cel_value.specs.declared.cel_type.CelType as type
use Rattle.cel_value.specs.CelType.{assignable}
use Rattle.cel_value.specs.declared.expr.Loop.{Loop}
use Rattle.cel_value.specs.declared.expr.Loop.TheVariants as loop
use Rattle.cel_operators.specs.Wants.{limit_of, is_there, is_truth}
use Rattle.cel_operators.specs.declared.limit.Span.{Span}
use Rattle.cel_operators.specs.declared.operands.Want.TheVariants.{Ranged}
use Rattle.cel_operators.specs.Loops.{loop_type}
pub use Rattle.cel_verify.specs.declared.open_loop.Open.{Open}
use Rattle.cel_verify.specs.Bodies.{same_body, is_item, is_next}
use Rattle.cel_operators.specs.declared.type_rule.TypeRule.{TypeRule}
use Rattle.cel_operators.specs.declared.type_rule.TypeRule.TheVariants.{TooLarge}
use Rattle.cel_operators.specs.declared.operator.Operator.{Operator}
use Rattle.cel_code.specs.declared.instr.Instr.{Instr}
use Rattle.cel_code.specs.declared.instr.Instr.TheVariants.{Const, Op, WithText, AndTest, OrTest, And, Or, Cond, Jump, End, Slot, Local}
use Rattle.cel_code.specs.declared.instr.Instr.TheVariants.{Item, When, Next}
use Rattle.cel_code.specs.LoopNumbers.{loop_kind}
use Rattle.cel_code.specs.Machine.{taken_off, constant_text}
use Rattle.cel_operators.specs.Maps.{entries_type}
use Rattle.cel_operators.specs.TextOperators.{row_with}
use Rattle.cel_operators.specs.declared.text_operator.TextOperator.{TextOperator}
use Rattle.cel_operators.specs.Lists.{items_type}
use Rattle.cel_code.specs.declared.instr.Instr.TheVariants as instr
use Rattle.cel_code.specs.declared.image.Image.{Image}
use Rattle.cel_code.specs.declared.image.Target.{Target}
use Rattle.cel_operators.specs.Operators.{Row, One, Two, row, operator_of, type_of_one, type_of_two}
use Rattle.cel_verify.specs.declared.fault.VerifyRule.{VerifyRule}
use Rattle.cel_verify.specs.declared.fault.VerifyRule.TheVariants.{Underflow, WrongKind, BadTarget, BadNesting, BadConstant, TooDeep}
use Rattle.cel_verify.specs.declared.fault.VerifyRule.TheVariants.{OverBudget}
use Rattle.cel_verify.specs.StackTypes.{StackTypes, all_assignable, constant_type}

-- the types below all open loops
abbrev pub below_all : List Open → StackTypes
below_all [] = []
below_all (o ∷ os) = o.below ++ below_all os

-- the types above the innermost frame, if the instruction is reached, and the open loops, the innermost first
pub record Label : Type 0 where
  pub types : Option StackTypes
  pub opens : List Open

-- what goes on to the next instruction, types or nothing, or the rule that is broken
abbrev pub Falls : Type 0
Falls = Result (Option StackTypes) VerifyRule

-- the types where jumps arrive at an instruction, the top first
abbrev pub entry_in : List Target → ℕ → Option StackTypes
entry_in [] at = None
entry_in (e ∷ es) at = if nat_eq e.at at then Some (reverse e.types) else entry_in es at

-- a condition of a rule, or the rule that is broken
abbrev pub needs : Bool → VerifyRule → Falls → Falls
needs true broken r = r
needs false broken r = Err broken

-- where an instruction jumps
abbrev pub jumps_of : Instr → List ℕ
jumps_of (AndTest to) = to ∷ []
jumps_of (OrTest to) = to ∷ []
jumps_of (Cond if_false if_error) = if_false ∷ if_error ∷ []
jumps_of (Jump to) = to ∷ []
jumps_of (instr.Loop n exit) = exit ∷ []
jumps_of _ = []

-- each of these passes
abbrev pub every : (ℕ → Bool) → List ℕ → Bool
every p [] = true
every p (t ∷ ts) = p t && every p ts

-- one of these passes
abbrev pub some_of : (ℕ → Bool) → List ℕ → Bool
some_of p [] = false
some_of p (t ∷ ts) = p t || some_of p ts

-- an instruction's constant, slot, operator or kind of loop is there
abbrev pub is_named : Image → Instr → Bool
is_named image (Const k) = is_there (constant_type (slice_get image.constants k))
is_named image (Slot n) = is_there (slice_get image.slots n)
is_named image (Op o) = is_there (operator_of o)
is_named image (WithText op k) = is_there (constant_text (slice_get image.constants k))
is_named image (instr.Loop n exit) = is_there (loop_kind n)
is_named image _ = true

-- a jump goes forward, to an instruction that has types
abbrev pub is_target : Image → ℕ → ℕ → Bool
is_target image at to = (nat_lt at to && nat_lt to (length image.code)) && is_there (entry_in image.targets to)

-- whether one of the instructions jumps to this one
abbrev pub is_jumped : List Instr → ℕ → Bool
is_jumped [] to = false
is_jumped (i ∷ is) to = some_of (λ t. nat_eq t to) (jumps_of i) || is_jumped is to

-- an instruction that has types is one to which an instruction jumps
abbrev pub is_wanted : Image → ℕ → Bool
is_wanted image at = not (is_there (entry_in image.targets at)) || is_jumped image.code at

-- whether there is an innermost loop and something holds of it
abbrev pub in_innermost : (Open → Bool) → List Open → Bool
in_innermost p [] = false
in_innermost p (o ∷ os) = p o

-- a loop that is `map`
abbrev pub is_map : Loop → Bool
is_map loop.Map = true
is_map _ = false

-- where an instruction of loops may be: LOOP in front of ITEM, leading to the place after NEXT, which is after ITEM; ITEM and
-- NEXT in the body that they begin and end; WHEN in a `map`
abbrev pub is_placed : Image → ℕ → Instr → List Open → Bool
is_placed image at (instr.Loop n exit) opens =
    is_item (slice_get image.code (at + 1)) && (is_next (slice_get image.code (exit - 1)) && nat_lt (at + 2) exit)
is_placed image at Item opens = in_innermost (λ o. nat_eq at (o.start + 1)) opens
is_placed image at When opens = in_innermost (λ o. is_map o.mode) opens
is_placed image at Next opens = in_innermost (λ o. nat_eq o.exit (at + 1)) opens
is_placed image at _ opens = true

-- an instruction is where it may be, and its jumps stay in the body that it is in
abbrev pub is_nested : Image → ℕ → Instr → List Open → Bool
is_nested image at i opens = is_placed image at i opens && every (same_body image.code at) (jumps_of i)

-- the type that an operator gives, on top of those below its operands; a limit of it past the greatest is reported by itself
abbrev pub given : Result CelType TypeRule → StackTypes → Falls
given (Err TooLarge) ts = Err OverBudget
given (Err rule) ts = Err WrongKind
given (Ok t) ts = Ok (Some (t ∷ ts))

-- an operator at the types of its operands
abbrev pub row_rule : Row → StackTypes → Falls
row_rule (One w r) (s ∷ ts) = given (type_of_one (One w r) s) ts
row_rule (Two v w r) (t ∷ s ∷ ts) = given (type_of_two (Two v w r) s t) ts
row_rule _ _ = Err Underflow

-- the operator of a number
abbrev pub op_rule : Option Operator → StackTypes → Falls
op_rule None ts = Err BadConstant
op_rule (Some op) ts = row_rule (row op) ts

-- the type of a constant or of a slot, on top
abbrev pub constant_rule : Option CelType → StackTypes → Falls
constant_rule None ts = Err BadConstant
constant_rule (Some t) ts = Ok (Some (t ∷ ts))

-- the type of a list of items of these types, on top of those below them
abbrev pub listed_rule : Option (StackTypes × StackTypes) → Falls
listed_rule None = Err Underflow
listed_rule (Some p) = given (items_type p.0) p.1

-- the type of a map of keys and values of these types by turns, likewise
abbrev pub mapped_rule : Option (StackTypes × StackTypes) → Falls
mapped_rule None = Err Underflow
mapped_rule (Some p) = given (entries_type p.0) p.1

-- an operator with a text, if there is one
abbrev pub text_rule : TextOperator → Option (List ℕ) → StackTypes → Falls
text_rule op None ts = Err BadConstant
text_rule op (Some text) ts = row_rule (row_with op text) ts

-- these types are assignable to an entry
abbrev pub enters : Option StackTypes → StackTypes → Bool
enters None ts = false
enters (Some es) ts = all_assignable ts es

-- a side, which is a truth value if it ends the operator
abbrev pub test_rule : Option StackTypes → StackTypes → Falls
test_rule es [] = Err Underflow
test_rule es (t ∷ ts) = needs (is_truth t && enters es (type.Bool ∷ ts)) WrongKind (Ok (Some (t ∷ ts)))

-- both sides
abbrev pub join_rule : StackTypes → Falls
join_rule (t ∷ s ∷ ts) = needs (is_truth s && is_truth t) WrongKind (Ok (Some (type.Bool ∷ ts)))
join_rule _ = Err Underflow

-- a condition, whose error goes after both branches
abbrev pub cond_rule : Option StackTypes → Option StackTypes → StackTypes → Falls
cond_rule fs es [] = Err Underflow
cond_rule fs es (t ∷ ts) = needs (is_truth t && (enters fs ts && enters es (type.Never ∷ ts))) WrongKind (Ok (Some ts))

-- a jump, to whose entry all types are assignable
abbrev pub jump_rule : Option StackTypes → StackTypes → Falls
jump_rule es ts = needs (enters es ts) WrongKind (Ok None)

-- the outcome alone
abbrev pub end_rule : CelType → StackTypes → Falls
end_rule result [] = Err Underflow
end_rule result (t ∷ []) = needs (assignable t result) WrongKind (Ok None)
end_rule result _ = Err WrongKind

-- the item of an open loop, on top
abbrev pub local_rule : Option Open → StackTypes → Falls
local_rule None ts = Err Underflow
local_rule (Some o) ts = Ok (Some (o.item ∷ ts))

-- the result of no items may be used where a loop leads; a body begins with nothing above its frame
abbrev pub empty_rule : Option StackTypes → StackTypes → Result CelType TypeRule → Falls
empty_rule es ts (Err broken) = Err WrongKind
empty_rule es ts (Ok s) = needs (enters es (s ∷ ts)) WrongKind (Ok (Some []))

-- a range of no items
abbrev pub no_items : Span
no_items = record { max = 0; item = type.Never }

-- a loop over a range of a type
abbrev pub range_rule : Loop → Option Span → Option StackTypes → StackTypes → Falls
range_rule l None es ts = Err WrongKind
range_rule l (Some span) es ts = empty_rule es ts (loop_type l no_items type.Never)

-- a loop over what is on top
abbrev pub loop_rule : Loop → Option StackTypes → StackTypes → Falls
loop_rule l es [] = Err Underflow
loop_rule l es (t ∷ ts) = range_rule l (limit_of Ranged t) es ts

-- a loop of the kind of a number, if there is one
abbrev pub kind_rule : Option Loop → Option StackTypes → StackTypes → Falls
kind_rule None es ts = Err BadConstant
kind_rule (Some l) es ts = loop_rule l es ts

-- the next item, with nothing above the frame
abbrev pub item_rule : StackTypes → Falls
item_rule [] = Ok (Some [])
item_rule _ = Err WrongKind

-- the predicate of `map`, alone above the frame
abbrev pub when_rule : StackTypes → Falls
when_rule [] = Err Underflow
when_rule (t ∷ []) = needs (is_truth t) WrongKind (Ok (Some []))
when_rule _ = Err WrongKind

-- the most items of an open loop, and their type
abbrev pub span_of : Open → Span
span_of o = record { max = o.max; item = o.item }

-- a loop's result may be used where it leads
abbrev pub closing_rule : Open → Result CelType TypeRule → Falls
closing_rule o (Err broken) = Err WrongKind
closing_rule o (Ok s) = needs (all_assignable (s ∷ o.below) o.after) WrongKind (Ok None)

-- what a body gives, alone above the frame
abbrev pub next_rule : List Open → StackTypes → Falls
next_rule opens [] = Err Underflow
next_rule (o ∷ os) (t ∷ []) = closing_rule o (loop_type o.mode (span_of o) t)
next_rule opens _ = Err WrongKind

-- one instruction at the types above the innermost frame
abbrev pub typed_rule : Image → Instr → List Open → StackTypes → Falls
typed_rule image (Const k) opens ts = constant_rule (constant_type (slice_get image.constants k)) ts
typed_rule image (Slot n) opens ts = constant_rule (slice_get image.slots n) ts
typed_rule image (Local d) opens ts = local_rule (slice_get opens d) ts
typed_rule image (Op o) opens ts = op_rule (operator_of o) ts
typed_rule image (instr.List n) opens ts = listed_rule (taken_off n [] ts)
typed_rule image (instr.Map n) opens ts = mapped_rule (taken_off (n + n) [] ts)
typed_rule image (WithText op k) opens ts = text_rule op (constant_text (slice_get image.constants k)) ts
typed_rule image (AndTest to) opens ts = test_rule (entry_in image.targets to) ts
typed_rule image (OrTest to) opens ts = test_rule (entry_in image.targets to) ts
typed_rule image And opens ts = join_rule ts
typed_rule image Or opens ts = join_rule ts
typed_rule image (Cond if_false if_error) opens ts = cond_rule (entry_in image.targets if_false) (entry_in image.targets if_error) ts
typed_rule image (Jump to) opens ts = jump_rule (entry_in image.targets to) ts
typed_rule image (instr.Loop n exit) opens ts = kind_rule (loop_kind n) (entry_in image.targets exit) ts
typed_rule image Item opens ts = item_rule ts
typed_rule image When opens ts = when_rule ts
typed_rule image Next opens ts = next_rule opens ts
typed_rule image End opens ts = end_rule image.result ts

-- the most operands, over all open loops together
abbrev pub max_depth : ℕ
max_depth = 16384

-- the most open loops
abbrev pub max_loops : ℕ
max_loops = 100

-- one loop more is open, of a kind, whose range is of a type and which leads to an entry
abbrev pub with_loop : ℕ → ℕ → Option Loop → StackTypes → Option Span → Option StackTypes → List Open → List Open
with_loop start exit (Some l) below (Some span) (Some after) opens =
    record { start = start; exit = exit; mode = l; item = span.item; max = span.max; below = below; after = after } ∷ opens
with_loop start exit l below _ _ opens = opens

-- the open loops after an instruction, before any of them ends
abbrev pub opening : Image → ℕ → Option Instr → Option StackTypes → List Open → List Open
opening image at (Some (instr.Loop n exit)) (Some (t ∷ ts)) opens =
    with_loop at exit (loop_kind n) ts (limit_of Ranged t) (entry_in image.targets exit) opens
opening image at _ types opens = opens

-- those that lead further on than an instruction: the innermost that does, and all outside it
abbrev pub still_open : ℕ → List Open → List Open
still_open at [] = []
still_open at (o ∷ os) = if nat_lt at o.exit then o ∷ os else still_open at os

-- what a rule makes of the types, if there are some
abbrev pub on_types : Option StackTypes → (StackTypes → Falls) → Falls
on_types None f = Err BadTarget
on_types (Some ts) f = f ts

-- what an instruction makes of the types at its label, if it is reached
abbrev pub made : Image → Instr → Label → Falls
made image i l = on_types l.types (typed_rule image i l.opens)

-- the fault of a condition that fails
abbrev pub unless : Bool → VerifyRule → Option VerifyRule
unless true broken = None
unless false broken = Some broken

-- the fault of what is made of the types; what has a limit past the greatest is assignable to no entry
abbrev pub untyped : Option StackTypes → Falls → Option VerifyRule
untyped (Some es) (Err OverBudget) = Some WrongKind
untyped entry (Err broken) = Some broken
untyped entry (Ok next) = None

-- what goes on is assignable to the next instruction's entry, if there is one
abbrev pub may_stand : Option StackTypes → Falls → Bool
may_stand (Some es) (Ok (Some ts)) = all_assignable ts es
may_stand _ _ = true

-- what goes on is no deeper than the stack may be, with no more loops open than may be
abbrev pub is_shallow : List Open → Falls → Bool
is_shallow opens (Ok (Some ts)) = nat_le (length ts + length (below_all opens)) max_depth && nat_le (length opens) max_loops
is_shallow opens _ = true

-- what an instruction's rule asks, in order: each condition with its fault, if it fails
abbrev pub faults : Image → ℕ → Instr → Label → List (Option VerifyRule)
faults image at i l =
    unless (is_named image i) BadConstant
    ∷ unless (is_wanted image at) BadTarget
    ∷ unless (every (is_target image at) (jumps_of i)) BadTarget
    ∷ unless (is_there l.types) BadTarget
    ∷ unless (is_nested image at i l.opens) BadNesting
    ∷ untyped (entry_in image.targets (at + 1)) (made image i l)
    ∷ unless (may_stand (entry_in image.targets (at + 1)) (made image i l)) WrongKind
    ∷ unless (is_shallow (opening image at (Some i) l.types l.opens) (made image i l)) TooDeep
    ∷ []

-- the first fault of these, or what goes on if there is none
abbrev pub first_of : List (Option VerifyRule) → Option StackTypes → Falls
first_of [] next = Ok next
first_of (None ∷ fs) next = first_of fs next
first_of (Some broken ∷ fs) next = Err broken

-- what goes on, if there is no fault
abbrev pub fallen : Falls → Option StackTypes
fallen (Ok next) = next
fallen (Err broken) = None

-- an instruction's rule: its first fault, or what goes on
abbrev pub rule : Image → ℕ → Instr → Label → Falls
rule image at i l = first_of (faults image at i l) (fallen (made image i l))

-- the rule of the instruction at a place, if there is one
abbrev pub rule_at : Image → ℕ → Option Instr → Label → Falls
rule_at image at None l = Err BadTarget
rule_at image at (Some i) l = rule image at i l

-- the types where jumps arrive, or else those that go on
abbrev pub entry_or : Option StackTypes → Option StackTypes → Option StackTypes
entry_or (Some es) o = Some es
entry_or None o = o

-- the open loops of the next instruction
abbrev pub opens_after : Image → ℕ → Option Instr → Label → List Open
opens_after image at o l = still_open (suc at) (opening image at o l.types l.opens)

-- END is the last instruction and is nowhere else
pub record EndsOnce (code : List Instr) : Type 0 where
  pub last : ℕ
  pub long : length code ≡ last + 1
  pub ends : slice_get code last ≡ Some End
  pub alone : (at : ℕ) → slice_get code at ≡ Some End → at ≡ last

-- the label of an instruction that is reached: the types above the innermost frame, and the open loops, the innermost first
pub record Reached : Type 0 where
  pub types : StackTypes
  pub opens : List Open

-- the same, as a label
abbrev pub reached_label : Reached → Label
reached_label r = record { types = Some r.types; opens = r.opens }

-- the rule of an instruction holds, and what goes on from it or arrives by jumps is the next one's
pub record Leads (image : Image) (at : ℕ) (here there : Reached) : Type 0 where
  pub next : Option StackTypes
  pub holds : rule_at image at (slice_get image.code at) (reached_label here) ≡ Ok next
  pub types : at + 1 < length image.code → entry_or (entry_in image.targets (at + 1)) next ≡ Some there.types
  pub opens : opens_after image at (slice_get image.code at) (reached_label here) ≡ there.opens

-- a label for each instruction; each leads to the next
pub record IsLabelling (image : Image) (label : ℕ → Reached) : Type 0 where
  pub first : label 0 ≡ record { types = []; opens = [] }
  pub each : (at : ℕ) → at < length image.code → Leads image at (label at) (label (at + 1))

-- a sound image: END is last and alone, and there is a label for each instruction; each leads to the next
pub record IsSound (image : Image) : Type 0 where
  pub ends : EndsOnce image.code
  pub label : ℕ → Reached
  pub is : IsLabelling image label

-- the label of the next instruction: the types where jumps arrive there, or else what goes on to it
abbrev pub next_label : Image → ℕ → Option Instr → Label → Label
next_label image at o l =
    record { types = entry_or (entry_in image.targets (suc at)) (fallen (rule_at image at o l)); opens = opens_after image at o l }

-- the labels one after another, whether rules hold or not; at the first the stack is empty
abbrev pub label_at : Image → ℕ → Label
label_at image zero = record { types = Some []; opens = [] }
label_at image (suc at) = next_label image at (slice_get image.code at) (label_at image at)

-- the rule of an instruction holds at its label
pub record Holds (image : Image) (at : ℕ) : Type 0 where
  pub next : Option StackTypes
  pub is : rule_at image at (slice_get image.code at) (label_at image at) ≡ Ok next

-- each instruction keeps its rule at its label of the walk
pub record IsWalked (image : Image) : Type 0 where
  pub ends : EndsOnce image.code
  pub each : (at : ℕ) → at < length image.code → Holds image at

-- the first instruction that breaks its rule
pub record IsFirstFault (image : Image) (at : ℕ) (broken : VerifyRule) : Type 0 where
  pub inside : at < length image.code
  pub before : (i : ℕ) → i < at → Holds image i
  pub is : rule_at image at (slice_get image.code at) (label_at image at) ≡ Err broken
