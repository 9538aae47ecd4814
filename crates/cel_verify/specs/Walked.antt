-- What the verifier's parts answer.
use Rattle.std.specs.Borrow.{Bor}
use Rattle.std.specs.Prelude.{◌≡◌, ℕ, ◌+◌, ◌*◌, ◌<◌, ◌≤◌, min, max, ◌-◌, ◌^◌, List, [], ◌++◌, length}
use Rattle.std.specs.Prelude.{slice_get, slice_index, reverse, ◌∷◌, Option, Some, None, Result, Ok, Err, MatchResult, nat_le, ◌&&◌}
use Rattle.cel_value.specs.declared.cel_type.CelType.{CelType}
use Rattle.cel_value.specs.declared.cel_type.CelType as type
use Rattle.cel_value.specs.declared.value.Value.{Value}
use Rattle.cel_value.specs.declared.expr.Loop.{Loop}
use Rattle.cel_operators.specs.Wants.{limit_of}
use Rattle.cel_operators.specs.declared.limit.Span.{Span}
use Rattle.cel_operators.specs.declared.operands.Want.TheVariants.{Ranged}
use Rattle.cel_operators.specs.Loops.{loop_type}
use Rattle.cel_code.specs.declared.instr.Instr.{Instr}
use Rattle.cel_code.specs.declared.instr.Instr.TheVariants as instr
use Rattle.cel_code.specs.declared.instr.Instr.TheVariants.{End}
use Rattle.cel_code.specs.declared.image.Image.{Image}
use Rattle.cel_code.specs.LoopNumbers.{loop_kind}
use Rattle.cel_operators.specs.Operators.{Row, type_of_one, type_of_two, greatest_of_one, greatest_of_two}
use Rattle.cel_verify.specs.declared.fault.VerifyRule.{VerifyRule}
use Rattle.cel_verify.specs.declared.fault.VerifyRule.TheVariants.{Underflow, WrongKind, TooDeep, OverBudget}
use Rattle.base_containers.specs.declared.failed.Failed.{Failed}
use Rattle.base_containers.specs.Failures.{Fails}
use Rattle.cel_verify.specs.declared.fault.VerifyFault.{VerifyFault}
use Rattle.base_containers.specs.declared.failed.Failed.TheVariants.{OutOfMemory, Fault}
use Rattle.cel_verify.specs.StackTypes.{StackTypes, all_assignable}
use Rattle.cel_verify.specs.declared.open_loop.Open.{Open}
use Rattle.cel_verify.specs.declared.measures.Measures.{Measures}
use Rattle.cel_verify.specs.Sound.{Label, Falls, needs, given, typed_rule, rule_at, entry_in, entry_or, label_at, max_depth, max_loops}
use Rattle.cel_verify.specs.Sound.{below_all, no_items, empty_rule, kind_rule, opening, still_open, Holds, IsFirstFault}
use Rattle.cel_verify.specs.Paths.{charge_in, charge_at, items_on_top, times_at, goes_to, IsGreatest}
use Rattle.cel_verify.specs.Depths.{operands_of, deepest, most_open}

-- an answer by a rule: what goes on is what the rule gives, and a refusal is the rule's
abbrev pub Follows : Result (Option StackTypes) (Failed VerifyRule) → Falls → Type 0
Follows answer falls = MatchResult answer (λ next. falls ≡ Ok next) (λ r. Fails r falls)

-- an operator at the type of one operand
abbrev pub rule_of_one : Row → StackTypes → Falls
rule_of_one r [] = Err Underflow
rule_of_one r (s ∷ ts) = given (type_of_one r s) ts

-- an operator at the types of two operands
abbrev pub rule_of_two : Row → StackTypes → Falls
rule_of_two r (t ∷ s ∷ ts) = given (type_of_two r s t) ts
rule_of_two r _ = Err Underflow

-- the greatest charge of an operator at the type of one operand
abbrev pub charge_on_one : Row → StackTypes → ℕ
charge_on_one r [] = 0
charge_on_one r (s ∷ ts) = greatest_of_one r s

-- the greatest charge of an operator at the types of two operands
abbrev pub charge_on_two : Row → StackTypes → ℕ
charge_on_two r (t ∷ s ∷ ts) = greatest_of_two r s t
charge_on_two r _ = 0

-- an entry that is lent, its bottom first
abbrev pub IsEntry : Option (Bor (List CelType)) → Option StackTypes → Type 0
IsEntry None entry = entry ≡ None
IsEntry (Some types) entry = entry ≡ Some (reverse types.now)

-- a label by its types and its open loops
abbrev pub labelled : Option StackTypes → List Open → Label
labelled types opens = record { types = types; opens = opens }

-- the rule of the instruction at a place, at a label
abbrev pub rule_here : Image → ℕ → Label → Falls
rule_here image at here = rule_at image at (slice_get image.code at) here

-- one instruction's rule holds, and this is the label of the next one
pub record Advances (image : Image) (at : ℕ) (here there : Label) : Type 0 where
  pub next : Option StackTypes
  pub holds : rule_here image at here ≡ Ok next
  pub entry : entry_or (entry_in image.targets (at + 1)) next ≡ there.types
  pub opens : still_open (at + 1) (opening image at (slice_get image.code at) here.types here.opens) ≡ there.opens

-- what goes on, if it is assignable to an entry; what has a limit past the greatest is assignable to no entry
abbrev pub entered : Option StackTypes → Falls → Falls
entered (Some es) (Ok (Some ts)) = needs (all_assignable ts es) WrongKind (Ok (Some ts))
entered (Some es) (Err OverBudget) = Err WrongKind
entered _ r = r

-- what goes on, if it is no deeper than the stack may be and no more loops are open than may be
abbrev pub shallow : List Open → Falls → Falls
shallow opens (Ok (Some ts)) =
    needs (nat_le (length ts + length (below_all opens)) max_depth && nat_le (length opens) max_loops) TooDeep (Ok (Some ts))
shallow opens r = r

-- what goes on to an instruction among these open loops, if it may arrive there and is no deeper than the stack may be
abbrev pub arrived : Image → ℕ → List Open → Falls → Falls
arrived image to opens falls = shallow opens (entered (entry_in image.targets to) falls)

-- these types may go on to an instruction among these open loops, and those are its types then
abbrev pub Arrives : Image → ℕ → List Open → Option StackTypes → Option StackTypes → Type 0
Arrives image to opens falls there =
    (arrived image to opens (Ok falls) ≡ Ok falls) × (entry_or (entry_in image.targets to) falls ≡ there)

-- a stack of no types may arrive at an entry, and is what is there then
pub record TakesNone (entry : Option StackTypes) : Type 0 where
  pub stand : entered entry (Ok (Some [])) ≡ Ok (Some [])
  pub there : entry_or entry (Some []) ≡ Some []

-- the part of an instruction's rule that asks the types
abbrev pub typed_here : Image → ℕ → Instr → StackTypes → List Open → Falls
typed_here image at i ts opens =
    arrived image (at + 1) (opening image at (Some i) (Some ts) opens) (typed_rule image i opens ts)

-- that part holds, and these are the types of the next instruction and the open loops before any of them ends
pub record Passes (image : Image) (at : ℕ) (i : Instr) (ts : StackTypes) (opens : List Open) (there : Option StackTypes)
    (behind : List Open) : Type 0 where
  pub next : Option StackTypes
  pub holds : typed_here image at i ts opens ≡ Ok next
  pub entry : entry_or (entry_in image.targets (at + 1)) next ≡ there
  pub opened : opening image at (Some i) (Some ts) opens ≡ behind

-- a range on top: what its type says, and the types below it
pub record IsRange (ts : StackTypes) (span : Span) (below : StackTypes) : Type 0 where
  pub top : CelType
  pub is : ts ≡ top ∷ below
  pub ranged : limit_of Ranged top ≡ Some span

-- the types where a loop leads, if its result of no items, on top of these types, may be used there
pub record Awaits (image : Image) (l : Loop) (exit : ℕ) (below after : StackTypes) : Type 0 where
  pub entry : entry_in image.targets exit ≡ Some after
  pub holds : empty_rule (Some after) below (loop_type l no_items type.Never) ≡ Ok (Some [])

-- the loop that begins at an instruction, if its rule holds at these types
pub record Begins (image : Image) (at n exit : ℕ) (ts : StackTypes) (o : Open) : Type 0 where
  pub holds : kind_rule (loop_kind n) (entry_in image.targets exit) ts ≡ Ok (Some [])
  pub opens : (opens : List Open) → opening image at (Some (instr.Loop n exit)) (Some ts) opens ≡ o ∷ opens

-- the greatest number of 64 bits
abbrev pub ceiling : ℕ
ceiling = 2 ^ 64 - 1

-- the weight of each instruction before one, up to the ceiling
abbrev pub AreWeights : (ℕ → ℕ) → ℕ → List ℕ → Type 0
AreWeights weigh at weights = (length weights ≡ at) × ((i : ℕ) → i < at → slice_index weights i ≡ min (weigh i) ceiling)

-- the greatest charge of each instruction before one, up to the ceiling
abbrev pub AreCharges : Image → ℕ → List ℕ → Type 0
AreCharges image at charges = AreWeights (charge_at image) at charges

-- for each instruction before one, how often the body of a loop that begins there counts
abbrev pub AreTimes : Image → ℕ → List ℕ → Type 0
AreTimes image at times = (length times ≡ at) × ((i : ℕ) → i < at → slice_index times i ≡ times_at image i)

-- what is measured of the instructions before one; the number of operands up to the ceiling
pub record AreMeasures (image : Image) (at : ℕ) (measures : Measures) : Type 0 where
  pub charges : AreCharges image at measures.charges.items
  pub times : AreTimes image at measures.times.items
  pub depth : measures.depth ≡ min (deepest image at) ceiling
  pub nesting : measures.nesting ≡ most_open image at

-- one instruction more is measured, at a label
pub record Measured (constants : List Value) (i : Instr) (here : Label) (old new : Measures) : Type 0 where
  pub charges : new.charges.items ≡ old.charges.items ++ min (charge_in constants (Some i) here.types) ceiling ∷ []
  pub times : new.times.items ≡ old.times.items ++ items_on_top here.types ∷ []
  pub depth : new.depth ≡ max old.depth (min (operands_of here.types + length (below_all here.opens)) ceiling)
  pub nesting : new.nesting ≡ max old.nesting (length here.opens)

-- the verifier is before an instruction
pub record IsBefore (image : Image) (at : ℕ) (here : Label) : Type 0 where
  pub label : label_at image at ≡ here
  pub holds : (i : ℕ) → i < at → Holds image i
  pub inside : at ≤ length image.code

-- the rule of each instruction holds
abbrev pub AllHold : Image → Type 0
AllHold image = (at : ℕ) → at < length image.code → Holds image at

-- the walk's refusal
abbrev pub IsWalkFault : Image → Failed VerifyFault → Type 0
IsWalkFault image OutOfMemory = Unit {0}
IsWalkFault image (Fault f) = IsFirstFault image f.at f.rule

-- before an instruction there is no END
abbrev pub NoEndBefore : List Instr → ℕ → Type 0
NoEndBefore code n = (i : ℕ) → i < n → slice_get code i ≡ Some End → ⊥

-- the greatest of what f gives for these; 0 if there are none
abbrev pub greatest : (ℕ → ℕ) → List ℕ → ℕ
greatest f [] = 0
greatest f (t ∷ ts) = max (f t) (greatest f ts)

-- how often the instructions after an instruction count, as the body of a loop that begins there
abbrev pub rounds_of : Instr → ℕ → ℕ
rounds_of (instr.Loop n exit) times = times
rounds_of _ times = 0

-- the greatest sum of what comes after an instruction, by the sums from each: its body so many times, and where it goes
abbrev pub behind : List ℕ → ℕ → Instr → ℕ → ℕ
behind sums times i at = rounds_of i times * slice_index sums (at + 1) + greatest (λ t. slice_index sums t) (goes_to i at)

-- the greatest number of these, up to the ceiling
pub record IsCapped (Is : ℕ → Type 0) (n : ℕ) : Type 0 where
  pub most : ℕ
  pub is : IsGreatest Is most
  pub capped : n ≡ min most ceiling
