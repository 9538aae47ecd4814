-- What escapes and the bytes between them stand for.
use Rattle.std.specs.Prelude.{ℕ, suc, zero, Bool, ◌&&◌, ◌||◌, List, [], ◌∷◌, ◌++◌, take}
use Rattle.std.specs.Prelude.{Option, Some, None, option_map, Result, Ok, Err, nat_le, nat_lt, nat_eq, if◌then◌else◌}
use Rattle.std.specs.Char.{encode_utf8}
use Rattle.cel_lex.specs.Bytes.{is_backslash}
use Rattle.cel_lex.specs.Numbers.{value_of, digits_in}

-- whether a number is the code of a character, which no surrogate is
abbrev pub is_character : ℕ → Bool
is_character n = nat_lt n 0xD800 || (nat_le 0xE000 n && nat_le n 0x10FFFF)

-- a number, if it is the code of a character
abbrev pub character : ℕ → Option ℕ
character n = if is_character n then Some n else None

-- the character that so many digits of a base are the code of, if they come first
abbrev pub coded : ℕ → ℕ → List ℕ → Option ℕ
coded base count bytes = if nat_le count (digits_in base bytes) then character (value_of base 0 (take count bytes)) else None

-- the character that one byte after a backslash stands for: a b f n r t v, or itself
abbrev pub simple : ℕ → Option ℕ
simple c =
    if nat_eq c 97 then Some 7
    else (if nat_eq c 98 then Some 8
    else (if nat_eq c 102 then Some 12
    else (if nat_eq c 110 then Some 10
    else (if nat_eq c 114 then Some 13
    else (if nat_eq c 116 then Some 9
    else (if nat_eq c 118 then Some 11
    else (if nat_eq c 92 || nat_eq c 63 || nat_eq c 34 || nat_eq c 39 || nat_eq c 96 then Some c
    else None)))))))

-- a character, if there is one, with how many bytes spell it
abbrev pub spelled_by : ℕ → Option ℕ → Option (ℕ × ℕ)
spelled_by count o = option_map (λ v. (v, count)) o

-- the character that the bytes after a backslash stand for, and how many they are: x and X with two hexadecimal
-- digits, u with four, U with eight, three octal digits up to 377, or one byte
abbrev pub escape_of : List ℕ → Option (ℕ × ℕ)
escape_of [] = None
escape_of (c ∷ rest) =
    if nat_eq c 120 || nat_eq c 88 then spelled_by 3 (coded 16 2 rest)
    else (if nat_eq c 117 then spelled_by 5 (coded 16 4 rest)
    else (if nat_eq c 85 then spelled_by 9 (coded 16 8 rest)
    else (if nat_le 48 c && nat_le c 51 then spelled_by 3 (coded 8 3 (c ∷ rest))
    else spelled_by 1 (simple c))))

-- what a text stands for with one more of its bytes in front, or how far in its first bad escape is
abbrev pub behind : List ℕ → Result (List ℕ) ℕ → Result (List ℕ) ℕ
behind value (Ok rest) = Ok (value ++ rest)
behind value (Err place) = Err (suc place)

-- what a text that begins with an escape stands for
abbrev pub escaped : Option (ℕ × ℕ) → (ℕ → Result (List ℕ) ℕ) → Result (List ℕ) ℕ
escaped None rest = Err 0
escaped (Some x) rest = behind (encode_utf8 x.0) (rest x.1)

-- the bytes that a text stands for, or how far in its first bad escape is: an escape stands for its character, and any
-- other byte for itself. So many bytes at the front belong to an escape before them
unfoldable pub meaning_of : ℕ → List ℕ → Result (List ℕ) ℕ
meaning_of n [] = Ok []
meaning_of (suc n) (c ∷ rest) = behind [] (meaning_of n rest)
meaning_of zero (c ∷ rest) = if is_backslash c then escaped (escape_of rest) (λ n. meaning_of n rest) else behind (c ∷ [])
    (meaning_of zero rest)
