-- The types of operand stacks.
use Rattle.std.specs.Prelude.{◌≡◌, ℕ, ◌^◌, nat_lt, Bool, true, false, ◌&&◌, List, [], ◌∷◌, Option, Some, None, if◌then◌else◌}
use Rattle.cel_value.specs.declared.value.Value.{Value, out-Value}
use Rattle.cel_value.specs.declared.value.Value.TheOpen.{Value-F}
use Rattle.cel_value.specs.declared.cel_type.CelType.{CelType}
use Rattle.cel_value.specs.declared.cel_type.CelType as type
use Rattle.cel_value.specs.CelType.{assignable}
use Rattle.cel_value.specs.Value.{code_points}
use Rattle.cel_operators.specs.Outcomes.{Outcome, outcome_fits}

-- a stack's types, the top first
abbrev pub StackTypes : Type 0
StackTypes = List CelType

-- whether what has the first types may be used where the second are required
abbrev pub all_assignable : StackTypes → StackTypes → Bool
all_assignable [] [] = true
all_assignable (s ∷ ss) (t ∷ ts) = assignable s t && all_assignable ss ts
all_assignable _ _ = false

-- a value or an error of a type; an error is of each
abbrev pub Fits : Outcome → CelType → Type 0
Fits x t = outcome_fits t (Some x) ≡ true

-- a stack of these types
abbrev pub AllFit : List Outcome → StackTypes → Type 0
AllFit [] [] = Unit {0}
AllFit (x ∷ stack) (t ∷ ts) = Fits x t × AllFit stack ts
AllFit _ _ = ⊥

-- the type of a constant text, which has at most its own length
abbrev pub text_type : List ℕ → Option CelType
text_type bytes = if nat_lt (code_points bytes) (2 ^ 32) then Some (type.Text (code_points bytes)) else None

-- the type of a level that may be a constant: null, a truth value, a number or a text
abbrev pub constant_type_at : Value-F Value → Option CelType
constant_type_at Value-F.Null = Some type.Null
constant_type_at (Value-F.Bool b) = Some type.Bool
constant_type_at (Value-F.Int n) = Some type.Int
constant_type_at (Value-F.Uint n) = Some type.Uint
constant_type_at (Value-F.Text bytes) = text_type bytes
constant_type_at _ = None

-- the type of a constant, if there is one and its value may be one
abbrev pub constant_type : Option Value → Option CelType
constant_type None = None
constant_type (Some v) = constant_type_at (out-Value v)
