-- The numbers of the kinds of loops.
use Rattle.std.specs.Prelude.{ℕ, List, [], ◌∷◌, Option, slice_get}
use Rattle.cel_value.specs.declared.expr.Loop.{Loop}
use Rattle.cel_value.specs.declared.expr.Loop.TheVariants as loop

-- the kinds of loops, by their numbers
abbrev pub loops : List Loop
loops = loop.All ∷ loop.Exists ∷ loop.ExistsOne ∷ loop.Map ∷ loop.Filter ∷ []

-- the kind of loop of a number, if there is one
abbrev pub loop_kind : ℕ → Option Loop
loop_kind n = slice_get loops n

-- the number of a kind of loop
abbrev pub loop_number : Loop → ℕ
loop_number loop.All = 0
loop_number loop.Exists = 1
loop_number loop.ExistsOne = 2
loop_number loop.Map = 3
loop_number loop.Filter = 4
