-- What an expression gives if its names hold these, and what it charges.
use Rattle.std.specs.Prelude.{ℕ, Bool, false, List, Option, Some, None, Ok, Err}
use Rattle.cel_value.specs.declared.value.Value.{Value, out-Value}
use Rattle.cel_value.specs.declared.value.Value.TheOpen.{Value-F}
use Rattle.cel_value.specs.declared.cel_error.CelError.TheVariants.{NoSuchKey}
use Rattle.cel_operators.specs.Outcomes.{Outcome, Side}
use Rattle.cel_expression.specs.Source.{Source}
use Rattle.cel_expression.specs.Expressions.{Ran, run_of}

-- an expression that may not be run would give an error, and charge nothing
abbrev pub given_by : Option Ran → Outcome
given_by None = Err NoSuchKey
given_by (Some r) = r.outcome

abbrev pub charged_by : Option Ran → ℕ
charged_by None = 0
charged_by (Some r) = r.charged

-- the value or error of an expression
unfoldable pub given : Source → List Outcome → Outcome
given s slots = given_by (run_of s slots)

-- what its run charges
unfoldable pub charge : Source → List Outcome → ℕ
charge s slots = charged_by (run_of s slots)

-- one level: whether it is true
abbrev pub is_true : Value-F Value → Bool
is_true (Value-F.Bool b) = b
is_true _ = false

-- whether an outcome is true, or its error: what is wanted to be a truth value is no other value
abbrev pub truth_of : Outcome → Side
truth_of (Ok v) = Ok (is_true (out-Value v))
truth_of (Err e) = Err e

-- whether an expression is true, or its error
abbrev pub holds : Source → List Outcome → Side
holds s slots = truth_of (given s slots)
