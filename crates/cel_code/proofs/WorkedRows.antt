-- Steps of the machine, worked by the definitions.
use Rattle.std.proofs.Common.{◌≡◌, [], ◌∷◌, refl, true, false}
use Rattle.std.specs.Prelude.{None, Ok, Err, pos, negsuc}
use Rattle.cel_value.specs.declared.value.Value as value
use Rattle.cel_value.specs.declared.cel_type.CelType as type
use Rattle.cel_value.specs.declared.cel_error.CelError.TheVariants.{Overflow}
use Rattle.cel_operators.proofs.Opened.{out-Text, out-Map, out-Bool, out-List}
use Rattle.cel_operators.specs.declared.text_operator.TextOperator.TheVariants.{Has, Select}
use Rattle.cel_code.specs.declared.instr.Instr.TheVariants.{Const, Op, WithText, Map, End}
use Rattle.cel_code.specs.declared.image.Image.{Image}
use Rattle.cel_code.specs.declared.instr.Instr.TheVariants.{Loop, Item, When, Local}
use Rattle.cel_code.specs.declared.instr.Instr.TheVariants as instr
use Rattle.cel_value.specs.declared.expr.Loop.TheVariants as loop
use Rattle.cel_operators.specs.Loops.{nothing_yet, with_error}
use Rattle.cel_code.specs.Machine.{Frame, on, Goes, Ends, Stuck, step, frame}

-- the machine: CONST, an operator without its operand, past the code
negation : Image
negation = record {
  slots = [];
  constants = value.Int (pos 1) ∷ [];
  targets = [];
  result = type.Int;
  declared = None;
  code =
      Const 0 ∷ Op 1 ∷ Op 2 ∷ End ∷ [];
}

pushes_row : step negation [] (on 0 [] []) ≡ Goes 0 (on 1 (Ok (value.Int (pos 1)) ∷ []) [])
unfolding negation
pushes_row = refl

negates_row : step negation [] (on 1 (Ok (value.Int (pos 1)) ∷ []) []) ≡ Goes 1 (on 2 (Ok (value.Int (negsuc 0)) ∷ []) [])
unfolding negation value.out-Value denote.Hole.Carrier.out
negates_row = refl

missing_row : step negation [] (on 2 (Ok (value.Int (pos 1)) ∷ []) []) ≡ Stuck
unfolding negation
missing_row = refl

ends_row : step negation [] (on 3 (Err Overflow ∷ []) []) ≡ Ends (Err Overflow)
unfolding negation
ends_row = refl

past_row : step negation [] (on 4 [] []) ≡ Stuck
unfolding negation
past_row = refl

-- a map of one key, the key without its value, a field, and an operator whose constant is no text
abbrev one_entry : value.Value
one_entry = value.Map (record { key = 97 ∷ []; value = value.Int (pos 1) } ∷ [])

fields : Image
fields = record {
  slots = [];
  constants = value.Text (97 ∷ []) ∷ value.Int (pos 1) ∷ [];
  targets = [];
  result = type.Int;
  declared = None;
  code =
      Map 1 ∷ WithText Select 0 ∷ WithText Has 1 ∷ [];
}

map_row : step fields [] (on 0 (Ok (value.Int (pos 1)) ∷ Ok (value.Text (97 ∷ [])) ∷ []) []) ≡ Goes 3 (on 1 (Ok one_entry ∷ []) [])
unfolding fields value.out-Value denote.Hole.Carrier.out
map_row = refl

missing_value_row : step fields [] (on 0 (Ok (value.Text (97 ∷ [])) ∷ []) []) ≡ Stuck
unfolding fields
missing_value_row = refl

select_row : step fields [] (on 1 (Ok one_entry ∷ []) []) ≡ Goes 1 (on 2 (Ok (value.Int (pos 1)) ∷ []) [])
unfolding fields
select_row = rw (out-Text (97 ∷ []), out-Map (record { key = 97 ∷ []; value = value.Int (pos 1) } ∷ [])) refl

no_text_row : step fields [] (on 2 (Ok one_entry ∷ []) []) ≡ Stuck
unfolding fields value.out-Value denote.Hole.Carrier.out
no_text_row = refl

-- a loop: a range of two items and of none, an error, an item, a turn that goes on and one that ends it, a predicate in it
abbrev the_false : value.Value
the_false = value.Bool false

abbrev the_true : value.Value
the_true = value.Bool true

looping : Image
looping = record {
  slots = [];
  constants = [];
  targets = [];
  result = type.Bool;
  declared = None;
  code = Loop 1 4 ∷ Item ∷ Local 0 ∷ instr.Next ∷ When ∷ [];
}

-- the loop at its first item, with this many left
abbrev at_first : Frame
at_first = record { start = 0; exit = 4; mode = loop.Exists; item = the_false; left = the_true ∷ []; gathered = nothing_yet }

opens_row : step looping [] (on 0 (Ok (value.List (the_false ∷ the_true ∷ [])) ∷ []) [])
    ≡ Goes 1 (on 1 [] (frame 0 4 loop.Exists the_false (the_true ∷ []) ∷ []))
unfolding looping
opens_row = rw (out-List (the_false ∷ the_true ∷ [])) refl

empty_row : step looping [] (on 0 (Ok (value.List []) ∷ []) []) ≡ Goes 1 (on 4 (Ok the_false ∷ []) [])
unfolding looping
empty_row = rw (out-List []) refl

error_row : step looping [] (on 0 (Err Overflow ∷ []) []) ≡ Goes 1 (on 4 (Err Overflow ∷ []) [])
unfolding looping
error_row = refl

item_row : step looping [] (on 1 [] (frame 0 4 loop.Exists the_false (the_true ∷ []) ∷ [])) ≡ Goes 1 (on 2 [] (at_first ∷ []))
unfolding looping
item_row = refl

local_row : step looping [] (on 2 [] (at_first ∷ [])) ≡ Goes 1 (on 3 (Ok the_false ∷ []) (at_first ∷ []))
unfolding looping
local_row = refl

goes_on_row : step looping [] (on 3 (Err Overflow ∷ []) (at_first ∷ []))
    ≡ Goes 0 (on 1 [] (record at_first { gathered = with_error Overflow nothing_yet } ∷ []))
unfolding looping
goes_on_row = refl

closes_row : step looping [] (on 3 (Ok the_true ∷ []) (at_first ∷ [])) ≡ Goes 0 (on 4 (Ok the_true ∷ []) [])
unfolding looping
closes_row = rw (out-Bool true) refl

no_kind_row : step (record looping { code = Loop 5 4 ∷ [] }) [] (on 0 (Err Overflow ∷ []) []) ≡ Stuck
unfolding looping
no_kind_row = refl

no_map_row : step looping [] (on 4 (Ok the_true ∷ []) (at_first ∷ [])) ≡ Stuck
unfolding looping
no_map_row = refl
