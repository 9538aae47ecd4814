-- Values after others.
use Rattle.std.proofs.Common.{List, ◌++◌}
use Rattle.std.specs.Prelude.{Result, Ok, Err}
use Rattle.cel_value.specs.declared.value.Value.{Value}
use Rattle.cel_value.specs.declared.cel_error.CelError.{CelError}

-- values in front of others, or the error of these
abbrev pub behind_values : List Value → Result (List Value) CelError → Result (List Value) CelError
behind_values vs (Err e) = Err e
behind_values vs (Ok ws) = Ok (vs ++ ws)
