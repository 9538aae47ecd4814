-- What a reader answers.
use Rattle.std.specs.Prelude.{Option, Some, None, Result, Ok, Err}

-- what is read, unless there is a fault
abbrev pub unless : {A F : Type 0} → A → Option F → Result A F
unless a None = Ok a
unless a (Some f) = Err f
