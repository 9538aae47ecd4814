-- The number that a text is, as it is held.
use Rattle.serde_json.specs.Data.{Num, unsigned, negative, float}
use Rattle.base_containers.specs.declared.number.Number.{Number}
use Rattle.base_containers.specs.declared.number.Number.TheVariants.{Unsigned, Negative, Float}

-- the number that is held
abbrev pub num_of : Number → Num
num_of (Unsigned n) = unsigned n
num_of (Negative z) = negative z
num_of (Float x) = float x
