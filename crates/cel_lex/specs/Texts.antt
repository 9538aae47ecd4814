-- Literal texts.
use Rattle.std.specs.Prelude.{ℕ, ◌+◌, Bool, true, false, not, ◌&&◌, ◌||◌, List, [], ◌∷◌, length}
use Rattle.std.specs.Prelude.{take, drop, Option, Some, None, option_map, Result, Ok, Err, nat_eq, if◌then◌else◌}
use Rattle.std.specs.List.{list_all}
use Rattle.cel_lex.specs.declared.literal.Style.{Style}
use Rattle.cel_lex.specs.declared.token.TokenKind.TheVariants as kind
use Rattle.cel_lex.specs.declared.piece.Piece.{Piece}
use Rattle.cel_lex.specs.declared.piece.Piece.TheVariants as piece
use Rattle.cel_lex.specs.declared.fault.LexFaultKind.{LexFaultKind}
use Rattle.cel_lex.specs.declared.fault.LexFaultKind.TheVariants as fault
use Rattle.cel_lex.specs.Bytes.{is_quote, is_backslash, is_line_end}
use Rattle.cel_lex.specs.Escapes.{meaning_of}

-- how many quotes are at each end of a text
abbrev pub quotes : Style → ℕ
quotes s = if s.is_triple then 3 else 1

-- two quotes come first
abbrev pub begins_with_two : ℕ → List ℕ → Bool
begins_with_two quote [] = false
begins_with_two quote (c ∷ []) = false
begins_with_two quote (c ∷ d ∷ rest) = nat_eq c quote && nat_eq d quote

-- the style of a text whose first quote these bytes follow: three quotes are at its ends if three come first
abbrev pub style_of : Bool → ℕ → List ℕ → Style
style_of is_raw quote rest = record { quote = quote; is_triple = begins_with_two quote rest; is_raw = is_raw }

-- r and R
abbrev pub is_raw_mark : ℕ → Bool
is_raw_mark c = nat_eq c 114 || nat_eq c 82

-- how a text begins after its mark
abbrev pub raw_opening : List ℕ → Option (ℕ × Style)
raw_opening [] = None
raw_opening (q ∷ rest) = if is_quote q then Some (1 + quotes (style_of true q rest), style_of true q rest) else None

-- how many bytes a text begins with, a mark and quotes, and its style
abbrev pub opening : List ℕ → Option (ℕ × Style)
opening [] = None
opening (c ∷ rest) =
    if is_quote c then Some (quotes (style_of false c rest), style_of false c rest)
    else (if is_raw_mark c then raw_opening rest else None)

-- the closing quotes of a text come first
abbrev pub closes : Style → List ℕ → Bool
closes s [] = false
closes s (c ∷ rest) = nat_eq c s.quote && (not s.is_triple || begins_with_two s.quote rest)

-- what may not be in a text: the end of a line, unless three quotes are at its ends
abbrev pub breaks : Style → ℕ → Bool
breaks s c = not s.is_triple && is_line_end c

-- what may be in a text
abbrev pub keeps : Style → ℕ → Bool
keeps s c = not (breaks s c)

-- the byte after this one is escaped
abbrev pub escapes : Style → ℕ → Bool
escapes s c = not s.is_raw && is_backslash c

-- how many bytes are before the first closing quotes that no backslash escapes, if what may not be in a text does
-- not come first. The first byte may be escaped by a backslash before it
unfoldable pub closed_at : Style → Bool → List ℕ → Option ℕ
closed_at s is_escaped [] = None
closed_at s is_escaped (c ∷ rest) =
    if not is_escaped && closes s (c ∷ rest) then Some 0
    else (if breaks s c then None else option_map (λ n. 1 + n) (closed_at s (not is_escaped && escapes s c) rest))

-- a piece that is no token, with its fault so far after its first byte
abbrev pub faulty : LexFaultKind → ℕ → Piece
faulty kind place = piece.Faulty (record { kind = kind; place = place })

-- what a text is by what its bytes mean, so many bytes after its first
abbrev pub meant : ℕ → Result (List ℕ) ℕ → Piece
meant before (Ok value) = piece.Token (kind.Text value)
meant before (Err place) = faulty fault.BadEscape (before + place)

-- what a text is by the bytes between its quotes
abbrev pub content_of : ℕ → Style → List ℕ → Piece
content_of before s body = if s.is_raw then piece.Token (kind.Text body) else meant before (meaning_of 0 body)

-- what a text is by the bytes after its opening: one that its closing quotes end, or one that is not closed and goes on
-- to the end of what may be in it
abbrev pub closed_or_not : ℕ → Style → List ℕ → Option ℕ → Option Piece
closed_or_not before s inside None = if list_all (keeps s) inside then Some (faulty fault.Unterminated 0) else None
closed_or_not before s inside (Some n) = if nat_eq (n + quotes s) (length inside) then Some (content_of before s (take n inside)) else None

-- what the whole of a text with this opening is, if it is one piece
abbrev pub text_of : ℕ × Style → List ℕ → Option Piece
text_of o bytes = closed_or_not o.0 o.1 (drop o.0 bytes) (closed_at o.1 false (drop o.0 bytes))
