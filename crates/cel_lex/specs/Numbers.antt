-- Numbers.
use Rattle.std.specs.Prelude.{ℕ, ◌+◌, ◌*◌, ◌^◌, ◌-◌, Bool, false, ◌&&◌, ◌||◌, List}
use Rattle.std.specs.Prelude.{[], ◌∷◌, take, drop, Option, Some, None, nat_le, nat_eq, if◌then◌else◌}
use Rattle.std.specs.Char.{digit_value, is_digit as is_digit_of}
use Rattle.std.specs.List.{prefix_len}
use Rattle.cel_lex.specs.declared.token.TokenKind.TheVariants as kind
use Rattle.cel_lex.specs.declared.piece.Piece.{Piece}
use Rattle.cel_lex.specs.declared.piece.Piece.TheVariants as piece
use Rattle.cel_lex.specs.declared.fault.LexFaultKind.TheVariants as fault

-- the number that digits of a base spell, after n
abbrev pub value_of : ℕ → ℕ → List ℕ → ℕ
value_of base n [] = n
value_of base n (d ∷ ds) = value_of base (n * base + digit_value d) ds

-- a number, unless it is past the most
abbrev pub at_most : ℕ → ℕ → Option ℕ
at_most most n = if nat_le n most then Some n else None

-- a piece that is no token, since its number is out of range
abbrev pub out_of_range : Piece
out_of_range = piece.Faulty (record { kind = fault.IntRange; place = 0 })

-- what a number without a suffix is
abbrev pub signed : ℕ → Piece
signed n = if nat_le n (2 ^ 63) then piece.Token (kind.Int n) else out_of_range

-- what a number with a suffix is
abbrev pub unsigned : ℕ → Piece
unsigned n = if nat_le n (2 ^ 64 - 1) then piece.Token (kind.Uint n) else out_of_range

-- u and U
abbrev pub is_suffix : ℕ → Bool
is_suffix c = nat_eq c 117 || nat_eq c 85

-- what a number is by the bytes after its digits: none, or one suffix
abbrev pub suffixed : ℕ → List ℕ → Option Piece
suffixed n [] = Some (signed n)
suffixed n (c ∷ []) = if is_suffix c then Some (unsigned n) else None
suffixed n (c ∷ d ∷ rest) = None

-- how many digits of a base come first
abbrev pub digits_in : ℕ → List ℕ → ℕ
digits_in base bytes = prefix_len (λ c. is_digit_of c base) bytes

-- digits of a base, and after them at most a suffix
abbrev pub digits_of : ℕ → List ℕ → Option Piece
digits_of base bytes = suffixed (value_of base 0 (take (digits_in base bytes) bytes)) (drop (digits_in base bytes) bytes)

-- 0x and a digit come first
abbrev pub is_hexadecimal : List ℕ → Bool
is_hexadecimal [] = false
is_hexadecimal (c ∷ []) = false
is_hexadecimal (c ∷ d ∷ []) = false
is_hexadecimal (c ∷ d ∷ e ∷ rest) = nat_eq c 48 && nat_eq d 120 && is_digit_of e 16

-- what the whole of a text that begins with a digit is, if it is a number
abbrev pub number_of : List ℕ → Option Piece
number_of bytes = if is_hexadecimal bytes then digits_of 16 (drop 2 bytes) else digits_of 10 bytes
