-- Reading the next piece from left to right.
use Rattle.std.specs.Prelude.{◌≡◌, ℕ, ◌≤◌, length, ◌+◌, false, List, []}
use Rattle.std.specs.Prelude.{◌∷◌, take, drop, Option, Some, None, if◌then◌else◌}
use Rattle.std.specs.Char.{is_digit as is_digit_of}
use Rattle.std.specs.List.{prefix_len}
use Rattle.cel_lex.specs.declared.token.TokenKind.{TokenKind}
use Rattle.cel_lex.specs.declared.literal.Style.{Style}
use Rattle.cel_lex.specs.declared.piece.Piece.{Piece}
use Rattle.cel_lex.specs.declared.piece.Piece.TheVariants as piece
use Rattle.cel_lex.specs.declared.fault.LexFaultKind.TheVariants as fault
use Rattle.cel_lex.specs.Bytes.{is_space, is_letter, is_name, is_inline}
use Rattle.cel_lex.specs.Numbers.{value_of, signed, unsigned, is_suffix, digits_in, is_hexadecimal}
use Rattle.cel_lex.specs.Words.{word_of}
use Rattle.cel_lex.specs.Symbols.{single, double, is_comment}
use Rattle.cel_lex.specs.Texts.{quotes, opening, keeps, closed_at, faulty, content_of}
use Rattle.cel_lex.specs.Lexis.{piece_of, IsNext}

-- a number of so many digits, and the suffix that may follow them
abbrev pub ends_at : ℕ → ℕ → List ℕ → ℕ × Piece
ends_at n value [] = (n, signed value)
ends_at n value (c ∷ rest) = if is_suffix c then (n + 1, unsigned value) else (n, signed value)

-- the digits of a base that come first with their suffix, and how many bytes they are
abbrev pub digits_at : ℕ → List ℕ → ℕ × Piece
digits_at base bytes = ends_at (digits_in base bytes) (value_of base 0 (take (digits_in base bytes) bytes))
    (drop (digits_in base bytes) bytes)

-- what is so many bytes further
abbrev pub further : ℕ → ℕ × Piece → ℕ × Piece
further n x = (n + x.0, x.1)

-- the number that comes first, and how many bytes it is
abbrev pub number_at : List ℕ → ℕ × Piece
number_at bytes = if is_hexadecimal bytes then further 2 (digits_at 16 (drop 2 bytes)) else digits_at 10 bytes

-- a text by where it is closed, and how many bytes it is
abbrev pub literal_at : ℕ → Style → List ℕ → Option ℕ → ℕ × Piece
literal_at before s inside None = (before + prefix_len (keeps s) inside, faulty fault.Unterminated 0)
literal_at before s inside (Some n) = (before + n + quotes s, content_of before s (take n inside))

-- the text with so many bytes before what is inside, and how many bytes it is
abbrev pub text_at : ℕ → Style → List ℕ → ℕ × Piece
text_at before s inside = literal_at before s inside (closed_at s false inside)

-- a token of one byte, if there is one
abbrev pub one_of : Option TokenKind → Option (ℕ × Piece)
one_of None = None
one_of (Some k) = Some (1, piece.Token k)

-- a token of two bytes, if there is one
abbrev pub two_of : Option TokenKind → Option (ℕ × Piece) → Option (ℕ × Piece)
two_of None otherwise = otherwise
two_of (Some k) otherwise = Some (2, piece.Token k)

-- the comment or the symbol that comes first, and how many bytes it is
abbrev pub symbol_at : ℕ → List ℕ → Option (ℕ × Piece)
symbol_at c [] = one_of (single c)
symbol_at c (d ∷ rest) = if is_comment c d then Some (2 + prefix_len is_inline rest, piece.Blank) else two_of (double c d)
    (one_of (single c))

-- the word that comes first, and how many bytes it is
abbrev pub word_at : ℕ → List ℕ → ℕ × Piece
word_at c rest = (1 + prefix_len is_name rest, piece.Token (word_of (take (1 + prefix_len is_name rest) (c ∷ rest))))

-- the text that comes first if there is an opening, else what comes first otherwise
abbrev pub literal_or : Option (ℕ × Style) → List ℕ → Option (ℕ × Piece) → Option (ℕ × Piece)
literal_or None bytes otherwise = otherwise
literal_or (Some o) bytes otherwise = Some (text_at o.0 o.1 (drop o.0 bytes))

-- the piece that comes first, and how many bytes it is
unfoldable pub next_of : List ℕ → Option (ℕ × Piece)
next_of [] = None
next_of (c ∷ rest) =
    if is_space c then Some (1 + prefix_len is_space rest, piece.Blank)
    else (if is_digit_of c 10 then Some (number_at (c ∷ rest))
    else literal_or (opening (c ∷ rest)) (c ∷ rest)
    (if is_letter c then Some (word_at c rest) else symbol_at c rest))

-- the longest piece at the front, or that no front is one
abbrev pub Reads : List ℕ → Option (ℕ × Piece) → Type 0
Reads bytes None = (m : ℕ) → m ≤ length bytes → piece_of (take m bytes) ≡ None
Reads bytes (Some x) = IsNext bytes x.0 x.1

-- the fault of a piece is at most so many bytes after its first
abbrev pub HasFaultWithin : ℕ → Piece → Type 0
HasFaultWithin n (piece.Faulty f) = f.place ≤ n
HasFaultWithin n piece.Blank = Unit {0}
HasFaultWithin n (piece.Token k) = Unit {0}

-- likewise of what is read, if anything is
abbrev pub IsNear : ℕ → Option (ℕ × Piece) → Type 0
IsNear n None = Unit {0}
IsNear n (Some x) = HasFaultWithin n x.1
