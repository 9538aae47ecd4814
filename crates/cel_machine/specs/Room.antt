-- Stacks of operands with their room.
use Rattle.std.specs.Prelude.{◌<◌, ℕ, List, length}
use Rattle.cel_operators.specs.Outcomes.{Outcome}

-- the operands, the top first, and how many there is room for
pub record Operands : Type 0 where
  pub items : List Outcome
  pub room : ℕ

-- there is room for one more
abbrev pub HasRoom : Operands → Type 0
HasRoom s = length s.items < s.room
