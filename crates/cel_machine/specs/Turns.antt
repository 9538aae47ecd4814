-- How the turns of loops follow their definition.
use Rattle.std.specs.Prelude.{Bool, true, false, Option, Some, None, Ok, option_map}
use Rattle.cel_value.specs.declared.value.Value.{Value}
use Rattle.cel_value.specs.declared.expr.Loop.{Loop}
use Rattle.cel_value.specs.declared.expr.Loop.TheVariants.{All, Exists, ExistsOne, Filter, Map}
use Rattle.cel_operators.specs.declared.accumulator.Accumulator.{Accumulator}
use Rattle.cel_operators.specs.Outcomes.{Side}
use Rattle.cel_operators.specs.Loops.{Turn, Closes, GoesOn, turn_all, turn_exists, turn_exists_one, turn_filter}
use Rattle.cel_machine.specs.declared.turns.Turned.{Turned}
use Rattle.cel_machine.specs.declared.turns.Turned.TheVariants as turned

-- a turn, with what is gathered after it
abbrev pub turn_by : Turned → Accumulator → Option Turn
turn_by (turned.Closes x) a = Some (Closes x)
turn_by turned.GoesOn a = Some (GoesOn a)
turn_by turned.IsStuck a = None

-- whether a loop whose body is a predicate goes on from an item with what it has gathered
abbrev pub passes : Loop → Option Side → Bool
passes All (Some (Ok true)) = true
passes Exists (Some (Ok false)) = true
passes ExistsOne (Some (Ok false)) = true
passes Filter (Some (Ok false)) = true
passes _ _ = false

-- the turn of a loop whose body is a predicate; None in `map`
abbrev pub turn_side : Loop → Value → Accumulator → Option Side → Option Turn
turn_side All v a s = option_map (turn_all a) s
turn_side Exists v a s = option_map (turn_exists a) s
turn_side ExistsOne v a s = option_map (turn_exists_one a) s
turn_side Filter v a s = option_map (turn_filter v a) s
turn_side Map v a s = None
