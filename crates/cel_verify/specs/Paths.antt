-- The forward routes through code, and the greatest of their sums.
use Rattle.std.specs.Prelude.{◌≡◌, ℕ, Bool, true, false, ◌+◌, ◌*◌, ◌<◌, ◌≤◌, ◌⊎◌}
use Rattle.std.specs.Prelude.{List, [], ◌∷◌, slice_get, Option, Some, None}
use Rattle.cel_value.specs.declared.value.Value.{Value}
use Rattle.cel_operators.specs.declared.operator.Operator.{Operator}
use Rattle.cel_operators.specs.declared.text_operator.TextOperator.{TextOperator}
use Rattle.cel_operators.specs.Maps.{entries_greatest}
use Rattle.cel_operators.specs.TextOperators.{row_with}
use Rattle.cel_code.specs.Machine.{taken_off, constant_text}
use Rattle.cel_operators.specs.Wants.{limit_of}
use Rattle.cel_operators.specs.declared.limit.Span.{Span}
use Rattle.cel_operators.specs.declared.operands.Want.TheVariants.{Ranged}
use Rattle.cel_code.specs.declared.instr.Instr.{Instr}
use Rattle.cel_code.specs.declared.instr.Instr.TheVariants.{Op, WithText, AndTest, OrTest, Cond, Jump, End, Slot, Local, Item, Next}
use Rattle.cel_code.specs.declared.instr.Instr.TheVariants as instr
use Rattle.cel_code.specs.declared.image.Image.{Image}
use Rattle.cel_operators.specs.Operators.{Row, One, Two, row, operator_of, greatest_of_one, greatest_of_two}
use Rattle.cel_verify.specs.StackTypes.{StackTypes}
use Rattle.cel_verify.specs.Sound.{label_at}

-- the greatest charge of an operator at these types
abbrev pub row_charge : Row → StackTypes → ℕ
row_charge (One w r) (s ∷ ts) = greatest_of_one (One w r) s
row_charge (Two v w r) (t ∷ s ∷ ts) = greatest_of_two (Two v w r) s t
row_charge _ _ = 0

-- the greatest charge of an operator that is named by its number
abbrev pub op_charge : Option Operator → StackTypes → ℕ
op_charge None ts = 0
op_charge (Some op) ts = row_charge (row op) ts

-- the greatest charge of a map of keys and values of these types by turns
abbrev pub mapped_charge : Option (StackTypes × StackTypes) → ℕ
mapped_charge None = 0
mapped_charge (Some p) = entries_greatest p.0

-- the greatest charge of an operator with a text
abbrev pub text_charge : TextOperator → Option (List ℕ) → StackTypes → ℕ
text_charge op None ts = 0
text_charge op (Some text) ts = row_charge (row_with op text) ts

-- the greatest charge of an instruction at these types, with these constants
abbrev pub charge_of : List Value → Instr → StackTypes → ℕ
charge_of constants (Slot n) ts = 1
charge_of constants (Local d) ts = 1
charge_of constants (Op o) ts = op_charge (operator_of o) ts
charge_of constants (WithText op k) ts = text_charge op (constant_text (slice_get constants k)) ts
charge_of constants (instr.List n) ts = 1 + n
charge_of constants (instr.Map n) ts = mapped_charge (taken_off (n + n) [] ts)
charge_of constants (AndTest to) ts = 1
charge_of constants (OrTest to) ts = 1
charge_of constants (Cond if_false if_error) ts = 1
charge_of constants (instr.Loop n exit) ts = 1
charge_of constants Item ts = 1
charge_of constants _ ts = 0

-- the greatest charge of an instruction at its types; nothing if it is not reached
abbrev pub charge_in : List Value → Option Instr → Option StackTypes → ℕ
charge_in constants (Some i) (Some ts) = charge_of constants i ts
charge_in constants _ _ = 0

-- where an instruction may go on in the body that it is in; a loop goes on where it leads
abbrev pub goes_to : Instr → ℕ → List ℕ
goes_to (AndTest to) at = to ∷ (at + 1) ∷ []
goes_to (OrTest to) at = to ∷ (at + 1) ∷ []
goes_to (Cond if_false if_error) at = (at + 1) ∷ if_false ∷ if_error ∷ []
goes_to (Jump to) at = to ∷ []
goes_to (instr.Loop n exit) at = exit ∷ []
goes_to Next at = []
goes_to End at = []
goes_to _ at = (at + 1) ∷ []

-- the most items of a range
abbrev pub most_items : Option Span → ℕ
most_items None = 0
most_items (Some span) = span.max

-- the most items of the range on top
abbrev pub items_on_top : Option StackTypes → ℕ
items_on_top (Some (t ∷ ts)) = most_items (limit_of Ranged t)
items_on_top _ = 0

-- how often the body of the loop that begins here counts
abbrev pub times_at : Image → ℕ → ℕ
times_at image at = items_on_top (label_at image at).types

-- the greatest charge of an instruction at its label
abbrev pub charge_at : Image → ℕ → ℕ
charge_at image at = charge_in image.constants (slice_get image.code at) (label_at image at).types

-- a number is one of these
abbrev pub IsIn : ℕ → List ℕ → Type 0
IsIn t [] = ⊥
IsIn t (u ∷ us) = (t ≡ u) ⊎ IsIn t us

-- an instruction that begins a loop
abbrev pub is_loop : Instr → Bool
is_loop (instr.Loop n exit) = true
is_loop _ = false

-- a forward route from an instruction to the end of its body, and the sum of its weights; a loop counts a route through its
-- body so often
pub data Route (weigh times : ℕ → ℕ) (code : List Instr) : ℕ → ℕ → Type 0 where
  Stops : {at sum : ℕ} (i : Instr) → slice_get code at ≡ Some i → goes_to i at ≡ [] → sum ≡ weigh at → Route weigh times code at sum
  Via : {at sum : ℕ} (i : Instr) (to rest : ℕ) → slice_get code at ≡ Some i → is_loop i ≡ false → IsIn to (goes_to i at) → at < to
      → Route weigh times code to rest → sum ≡ weigh at + rest → Route weigh times code at sum
  Rounds : {at sum : ℕ} (n exit body rest : ℕ) → slice_get code at ≡ Some (instr.Loop n exit) → at < exit
      → Route weigh times code (at + 1) body → Route weigh times code exit rest → sum ≡ weigh at + (times at * body + rest)
      → Route weigh times code at sum

-- a forward route from the first instruction has this sum of weights
abbrev pub IsRouteSum : Image → (ℕ → ℕ) → ℕ → Type 0
IsRouteSum image weigh sum = Route weigh (times_at image) image.code 0 sum

-- a forward route charges this, if each instruction charges the most that it may at its label
abbrev pub IsRouteCharge : Image → ℕ → Type 0
IsRouteCharge image charge = IsRouteSum image (charge_at image) charge

-- a forward route has so many instructions
abbrev pub IsRouteLength : Image → ℕ → Type 0
IsRouteLength image steps = IsRouteSum image (λ _. 1) steps

-- the greatest number of these
pub record IsGreatest (Is : ℕ → Type 0) (greatest : ℕ) : Type 0 where
  pub bound : (n : ℕ) → Is n → n ≤ greatest
  pub attained : Is greatest

-- there is a greatest number of these
pub record HasGreatest (Is : ℕ → Type 0) : Type 0 where
  pub most : ℕ
  pub is : IsGreatest Is most

-- no more than one of these
pub record IsWithin (Is : ℕ → Type 0) (n : ℕ) : Type 0 where
  pub most : ℕ
  pub is : Is most
  pub within : n ≤ most

-- the charge of the dearest route
abbrev pub IsPathCost : Image → ℕ → Type 0
IsPathCost image cost = IsGreatest (IsRouteCharge image) cost

-- the instructions of the longest route
abbrev pub IsPathSteps : Image → ℕ → Type 0
IsPathSteps image steps = IsGreatest (IsRouteLength image) steps
