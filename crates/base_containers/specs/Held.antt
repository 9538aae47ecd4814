-- The bytes of a text.
use Rattle.std.specs.Prelude.{ℕ, List, string_bytes}
use Rattle.base_containers.specs.declared.text.Held.{Held}
use Rattle.base_containers.specs.declared.text.Held.TheVariants.{Short, Long}

-- the bytes, wherever they are
abbrev pub bytes_of : Held → List ℕ
bytes_of (Short s) = s.bytes
bytes_of (Long s) = string_bytes s
