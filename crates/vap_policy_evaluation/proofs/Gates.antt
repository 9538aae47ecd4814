-- Of two errors the first is said.
use Rattle.std.proofs.Common.{◌≡◌, ℕ, List, Option, Some, None, refl}
use Rattle.std.specs.Option.{option_or}

pub first_is_said : (first second rest : Option (List ℕ))
    → option_or (option_or first second) rest ≡ option_or first (option_or second rest)
first_is_said None second rest = refl
first_is_said (Some message) second rest = refl
