-- What loops go over, and open loops.
use Rattle.std.specs.Prelude.{ℕ, List, [], ◌∷◌, Option, Some, None, get_or}
use Rattle.cel_value.specs.declared.value.Value.{Value}
use Rattle.cel_value.specs.declared.value.Value as value
use Rattle.cel_operators.specs.Wants.{keys_of}
use Rattle.cel_operators.specs.declared.accumulator.Accumulator.{Accumulator}
use Rattle.cel_value.specs.declared.expr.Loop.{Loop}
use Rattle.cel_code.specs.Machine.{Frame, frame}
use Rattle.cel_machine.specs.declared.range.Range.{Range}
use Rattle.cel_machine.specs.declared.range.Range.TheVariants.{Lent, Own, LentKeys, OwnKeys}

-- the items, wherever they are
abbrev pub range_items : Range → List Value
range_items (Lent r) = r.now
range_items (Own vs) = vs
range_items (LentKeys r) = keys_of r.now
range_items (OwnKeys es) = keys_of es

-- the item at a place, or null after the last
abbrev pub item_at : List Value → ℕ → Value
item_at vs place = get_or vs place value.Null

-- a loop over these items that is opened; None if there are none
abbrev pub opened_over : ℕ → ℕ → Loop → List Value → Option Frame
opened_over start exit l [] = None
opened_over start exit l (v ∷ vs) = Some (frame start exit l v vs)

-- a loop at the first of these items, with the others left; None if there are none
abbrev pub taking : Frame → List Value → Option Frame
taking f [] = None
taking f (v ∷ vs) = Some (record f { item = v; left = vs })

-- a loop that has gathered this
abbrev pub with_gathered : Accumulator → Frame → Frame
with_gathered a f = record f { gathered = a }
