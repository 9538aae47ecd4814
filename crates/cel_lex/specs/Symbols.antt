-- Symbols and comments.
use Rattle.std.specs.Prelude.{ℕ, Bool, ◌&&◌, List, [], ◌∷◌, Option, Some, None, option_map, nat_eq, if◌then◌else◌}
use Rattle.std.specs.List.{list_all}
use Rattle.cel_lex.specs.declared.token.Infix.TheVariants as op
use Rattle.cel_lex.specs.declared.token.TokenKind.{TokenKind}
use Rattle.cel_lex.specs.declared.token.TokenKind.TheVariants as kind
use Rattle.cel_lex.specs.declared.piece.Piece.{Piece}
use Rattle.cel_lex.specs.declared.piece.Piece.TheVariants as piece
use Rattle.cel_lex.specs.Bytes.{is_inline}

-- the tokens of one character that are not between two operands
abbrev pub punctuation : ℕ → Option TokenKind
punctuation c =
    if nat_eq c 40 then Some kind.Open
    else (if nat_eq c 41 then Some kind.Close
    else (if nat_eq c 91 then Some kind.OpenBracket
    else (if nat_eq c 93 then Some kind.CloseBracket
    else (if nat_eq c 123 then Some kind.OpenBrace
    else (if nat_eq c 125 then Some kind.CloseBrace
    else (if nat_eq c 46 then Some kind.Dot
    else (if nat_eq c 44 then Some kind.Comma
    else (if nat_eq c 63 then Some kind.Question
    else (if nat_eq c 58 then Some kind.Colon
    else (if nat_eq c 33 then Some kind.Bang
    else None))))))))))

-- the tokens of one character
abbrev pub single : ℕ → Option TokenKind
single c =
    if nat_eq c 60 then Some (kind.Operator op.Less)
    else (if nat_eq c 62 then Some (kind.Operator op.Greater)
    else (if nat_eq c 43 then Some (kind.Operator op.Add)
    else (if nat_eq c 45 then Some (kind.Operator op.Subtract)
    else (if nat_eq c 42 then Some (kind.Operator op.Multiply)
    else (if nat_eq c 47 then Some (kind.Operator op.Divide)
    else (if nat_eq c 37 then Some (kind.Operator op.Remainder)
    else punctuation c))))))

-- the tokens of two characters
abbrev pub double : ℕ → ℕ → Option TokenKind
double c d =
    if nat_eq c 60 && nat_eq d 61 then Some (kind.Operator op.AtMost)
    else (if nat_eq c 62 && nat_eq d 61 then Some (kind.Operator op.AtLeast)
    else (if nat_eq c 61 && nat_eq d 61 then Some (kind.Operator op.Equal)
    else (if nat_eq c 33 && nat_eq d 61 then Some (kind.Operator op.NotEqual)
    else (if nat_eq c 38 && nat_eq d 38 then Some (kind.Operator op.And)
    else (if nat_eq c 124 && nat_eq d 124 then Some (kind.Operator op.Or)
    else None)))))

-- the two slashes of a comment
abbrev pub is_comment : ℕ → ℕ → Bool
is_comment c d = nat_eq c 47 && nat_eq d 47

-- a piece that goes on with bytes of one set
abbrev pub run_of : (ℕ → Bool) → Piece → List ℕ → Option Piece
run_of p what rest = if list_all p rest then Some what else None

-- a symbol of two characters and no more
abbrev pub pair_of : ℕ → ℕ → List ℕ → Option Piece
pair_of c d [] = option_map piece.Token (double c d)
pair_of c d (e ∷ rest) = None

-- a symbol of one or two characters, or a comment, which goes on to the end of its line
abbrev pub symbol_of : ℕ → List ℕ → Option Piece
symbol_of c [] = option_map piece.Token (single c)
symbol_of c (d ∷ rest) = if is_comment c d then run_of is_inline piece.Blank rest else pair_of c d rest
