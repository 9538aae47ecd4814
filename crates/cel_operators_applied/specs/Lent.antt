-- Outcomes whose values are elsewhere.
use Rattle.std.specs.Prelude.{List, map, Result, Ok, Err}
use Rattle.std.specs.Borrow.{Bor}
use Rattle.cel_value.specs.declared.value.Value.{Value}
use Rattle.cel_value.specs.declared.cel_error.CelError.{CelError}
use Rattle.cel_operators.specs.Outcomes.{Outcome}

-- an outcome whose value is lent
abbrev pub lent : Result (Bor Value) CelError → Outcome
lent (Ok r) = Ok r.now
lent (Err e) = Err e

-- each of them
abbrev pub all_lent : List (Result (Bor Value) CelError) → List Outcome
all_lent = map lent
