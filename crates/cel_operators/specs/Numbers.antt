-- Numbers that texts of decimal digits spell.
use Rattle.std.specs.Prelude.{ℕ, ◌-◌, ◌^◌, nat_eq, nat_le, ℤ, pos, Bool, false, ◌&&◌}
use Rattle.std.specs.Prelude.{List, [], ◌∷◌, Option, Some, None, if◌then◌else◌}
use Rattle.std.specs.Option.{option_map}
use Rattle.std.specs.Str.{all_ascii_digits}
use Rattle.std.specs.Str.Parse.{digits_value}
use Rattle.cel_value.specs.Reading.{below_zero}

-- digits, one at least, and nothing else
abbrev pub is_numeral : List ℕ → Bool
is_numeral [] = false
is_numeral (d ∷ ds) = all_ascii_digits (d ∷ ds)

-- the number that digits spell, if it is no more than the most
abbrev pub number_up_to : ℕ → List ℕ → Option ℕ
number_up_to most ds = if is_numeral ds && nat_le (digits_value 10 ds) most then Some (digits_value 10 ds) else None

-- the unsigned integer of 64 bits
abbrev pub uint_of : List ℕ → Option ℕ
uint_of text = number_up_to (2 ^ 64 - 1) text

-- the integer of 64 bits: after a minus, 45, the digits of a number below zero
abbrev pub int_of : List ℕ → Option ℤ
int_of [] = None
int_of (c ∷ ds) = if nat_eq c 45 then option_map below_zero (number_up_to (2 ^ 63) ds) else option_map pos
    (number_up_to (2 ^ 63 - 1) (c ∷ ds))
