-- Sets of bytes.
use Rattle.std.specs.Prelude.{ℕ, Bool, true, not, ◌&&◌, ◌||◌, nat_le, nat_eq}
use Rattle.std.specs.Char.{is_digit as is_digit_of}
use Rattle.cel_lex.specs.declared.bytes.Class.{Class}
use Rattle.cel_lex.specs.declared.bytes.Class.TheVariants as class

-- tab, LF, form feed, CR, space
abbrev pub is_space : ℕ → Bool
is_space c = nat_eq c 9 || nat_eq c 10 || nat_eq c 12 || nat_eq c 13 || nat_eq c 32

-- 0 to 9
abbrev pub is_digit : ℕ → Bool
is_digit c = nat_le 48 c && nat_le c 57

-- a to z, A to Z and the underscore, with which a name begins
abbrev pub is_letter : ℕ → Bool
is_letter c = (nat_le 97 c && nat_le c 122) || (nat_le 65 c && nat_le c 90) || nat_eq c 95

-- what a name goes on with
abbrev pub is_name : ℕ → Bool
is_name c = is_letter c || is_digit c

-- LF and CR
abbrev pub is_line_end : ℕ → Bool
is_line_end c = nat_eq c 10 || nat_eq c 13

-- what ends no line
abbrev pub is_inline : ℕ → Bool
is_inline c = not (is_line_end c)

-- the byte with which an escape begins
abbrev pub is_backslash : ℕ → Bool
is_backslash c = nat_eq c 92

-- what begins no escape
abbrev pub is_plain : ℕ → Bool
is_plain c = not (is_backslash c)

-- ' and "
abbrev pub is_quote : ℕ → Bool
is_quote c = nat_eq c 39 || nat_eq c 34

-- whether a byte is of a class
abbrev pub test_of : Class → ℕ → Bool
test_of class.Space c = is_space c
test_of (class.Digit base) c = is_digit_of c base
test_of class.Name c = is_name c
test_of class.Inline c = is_inline c
test_of class.Plain c = is_plain c
test_of class.All c = true
