-- Operands as the kinds that an operator takes.
use Rattle.std.specs.Prelude.{ℕ, Bool, true, false, List, [], Option, Some, None, Result, Ok, Err, min}
use Rattle.std.specs.Option.{option_map, unwrap_or}
use Rattle.cel_value.specs.declared.value.Value.{Value}
use Rattle.cel_value.specs.declared.cel_error.CelError.{CelError}
use Rattle.cel_operators.specs.Joined.{texts_of}
use Rattle.cel_operators.specs.declared.operator.Made.{Made}
use Rattle.cel_operators.specs.Operators.{makes}

-- what an operand is taken as, seen in another way
abbrev pub seen_by : {A B : Type 0} → (A → B) → Option (Result A CelError) → Option (Result B CelError)
seen_by f None = None
seen_by f (Some (Err e)) = Some (Err e)
seen_by f (Some (Ok a)) = Some (Ok (f a))

-- one operand, or what is answered without it: nothing if it is of another kind, its error for 1
abbrev pub alone : {A : Type 0} → Option (Result A CelError) → Result A (Option Made)
alone None = Err None
alone (Some (Err e)) = Err (makes (Some (Err e)) 1)
alone (Some (Ok a)) = Ok a

-- two operands, or what is answered without them: nothing if one is of another kind, the leftmost error for 1
abbrev pub both : {A B : Type 0} → Option (Result A CelError) → Option (Result B CelError) → Result (A × B) (Option Made)
both None y = Err None
both (Some (Err e)) None = Err None
both (Some (Ok a)) None = Err None
both (Some (Err e)) (Some y) = Err (makes (Some (Err e)) 1)
both (Some (Ok a)) (Some (Err e)) = Err (makes (Some (Err e)) 1)
both (Some (Ok a)) (Some (Ok b)) = Ok (a, b)

-- the texts that values are; none if one is no text
abbrev pub texts_in : List Value → List (List ℕ)
texts_in vs = unwrap_or (texts_of vs) []
