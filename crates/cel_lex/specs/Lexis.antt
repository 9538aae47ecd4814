-- The cut of a text into tokens, by longest match.
use Rattle.std.specs.Prelude.{◌≡◌, ℕ, ◌+◌, ◌<◌, ◌≤◌, List, [], ◌∷◌}
use Rattle.std.specs.Prelude.{length, take, drop, Option, Some, None, if◌then◌else◌}
use Rattle.std.specs.Char.{is_digit as is_digit_of}
use Rattle.cel_lex.specs.declared.token.TokenKind.{TokenKind}
use Rattle.cel_lex.specs.declared.token.Token.{Token}
use Rattle.cel_lex.specs.declared.literal.Style.{Style}
use Rattle.cel_lex.specs.declared.piece.Piece.{Piece}
use Rattle.cel_lex.specs.declared.piece.Piece.TheVariants as piece
use Rattle.cel_lex.specs.declared.fault.LexFault.{LexFault}
use Rattle.cel_lex.specs.declared.fault.LexFaultKind.TheVariants as fault
use Rattle.cel_lex.specs.Bytes.{is_space, is_letter, is_name}
use Rattle.cel_lex.specs.Numbers.{number_of}
use Rattle.cel_lex.specs.Words.{word_of}
use Rattle.cel_lex.specs.Symbols.{run_of, symbol_of}
use Rattle.cel_lex.specs.Texts.{opening, text_of}

-- a literal text if there is an opening, else what it is otherwise
abbrev pub text_or : Option (ℕ × Style) → List ℕ → Option Piece → Option Piece
text_or None bytes otherwise = otherwise
text_or (Some o) bytes otherwise = text_of o bytes

-- what the whole of a text is, if it is one piece
unfoldable pub piece_of : List ℕ → Option Piece
piece_of [] = None
piece_of (c ∷ rest) =
    if is_space c then run_of is_space piece.Blank rest
    else (if is_digit_of c 10 then number_of (c ∷ rest)
    else text_or (opening (c ∷ rest)) (c ∷ rest)
    (if is_letter c then run_of is_name (piece.Token (word_of (c ∷ rest))) rest else symbol_of c rest))

-- the front of a text that is a piece, and no longer front is one
pub record IsNext (bytes : List ℕ) (n : ℕ) (what : Piece) : Type 0 where
  pub some : 0 < n
  pub here : n ≤ length bytes
  pub piece : piece_of (take n bytes) ≡ Some what
  pub longest : (m : ℕ) → n < m → m ≤ length bytes → piece_of (take m bytes) ≡ None

-- from a place on, the text is cut into these tokens
pub data Cuts : ℕ → List ℕ → List Token → Type 0 where
  end : {place : ℕ} → Cuts place [] []
  blank : {place : ℕ} {bytes : List ℕ} {ts : List Token} {n : ℕ} → IsNext bytes n piece.Blank → Cuts (place + n) (drop n bytes) ts
      → Cuts place bytes ts
  token : {place : ℕ} {bytes : List ℕ} {ts : List Token} {n : ℕ} {k : TokenKind} → IsNext bytes n (piece.Token k)
      → Cuts (place + n) (drop n bytes) ts → Cuts place bytes (record { kind = k; start = place; end = place + n } ∷ ts)

-- from a place on, this is the first fault
pub data Fails : ℕ → List ℕ → LexFault → Type 0 where
  faulty : {place : ℕ} {bytes : List ℕ} {n : ℕ} {f : LexFault} → IsNext bytes n (piece.Faulty f)
      → Fails place bytes (record { kind = f.kind; place = place + f.place })
  bad : {place b : ℕ} {bs : List ℕ} → ((n : ℕ) → n ≤ length (b ∷ bs) → piece_of (take n (b ∷ bs)) ≡ None)
      → Fails place (b ∷ bs) (record { kind = fault.BadChar; place = place })
  after_blank : {place : ℕ} {bytes : List ℕ} {f : LexFault} {n : ℕ} → IsNext bytes n piece.Blank → Fails (place + n) (drop n bytes) f
      → Fails place bytes f
  after_token : {place : ℕ} {bytes : List ℕ} {f : LexFault} {n : ℕ} {k : TokenKind} → IsNext bytes n (piece.Token k)
      → Fails (place + n) (drop n bytes) f → Fails place bytes f

-- the tokens of a text, which is not too long
pub record IsCut (bytes : List ℕ) (ts : List Token) : Type 0 where
  pub short : length bytes ≤ 16384
  pub cut : Cuts 0 bytes ts

-- the fault of a text: that it is too long, else its first
pub data Refuses : List ℕ → LexFault → Type 0 where
  too_long : {bytes : List ℕ} → 16384 < length bytes → Refuses bytes (record { kind = fault.TooLong; place = 0 })
  first : {bytes : List ℕ} {f : LexFault} → length bytes ≤ 16384 → Fails 0 bytes f → Refuses bytes f
