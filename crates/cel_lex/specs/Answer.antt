-- The answer for a text as a function: its cut, or its fault.
use Rattle.std.specs.Prelude.{ℕ, zero, suc, ◌+◌, List, [], ◌∷◌, length, drop}
use Rattle.std.specs.Prelude.{Option, Some, None, Result, Ok, Err, nat_lt, if◌then◌else◌}
use Rattle.cel_lex.specs.declared.token.Token.{Token}
use Rattle.cel_lex.specs.declared.piece.Piece.{Piece}
use Rattle.cel_lex.specs.declared.piece.Piece.TheVariants as piece
use Rattle.cel_lex.specs.declared.fault.LexFault.{LexFault}
use Rattle.cel_lex.specs.declared.fault.LexFaultKind.TheVariants as fault
use Rattle.cel_lex.specs.Scan.{next_of}

-- tokens, or the first fault
abbrev pub Answer : Type 0
Answer = Result (List Token) LexFault

-- a token in front of others, unless there is a fault
abbrev pub in_front : Token → Answer → Answer
in_front t (Ok ts) = Ok (t ∷ ts)
in_front t (Err f) = Err f

-- a piece of so many bytes at a place, in front of what follows it
abbrev pub with_piece : ℕ → ℕ → Piece → Answer → Answer
with_piece place n piece.Blank rest = rest
with_piece place n (piece.Faulty f) rest = Err (record { kind = f.kind; place = place + f.place })
with_piece place n (piece.Token k) rest = in_front (record { kind = k; start = place; end = place + n }) rest

-- the piece at a place, if there is one, in front of what follows so many bytes
abbrev pub with_next : ℕ → Option (ℕ × Piece) → (ℕ → Answer) → Answer
with_next place None rest = Err (record { kind = fault.BadChar; place = place })
with_next place (Some x) rest = with_piece place x.0 x.1 (rest x.0)

-- a text of so many bytes at most, from a place on
unfoldable pub answer_from : ℕ → ℕ → List ℕ → Answer
answer_from most place [] = Ok []
answer_from zero place (b ∷ bs) = Err (record { kind = fault.BadChar; place = place })
answer_from (suc most) place (b ∷ bs) = with_next place (next_of (b ∷ bs)) (λ n. answer_from most (place + n) (drop n (b ∷ bs)))

-- the tokens of a text, or its fault
unfoldable pub answer_of : List ℕ → Answer
answer_of bytes =
    if nat_lt 16384 (length bytes) then Err (record { kind = fault.TooLong; place = 0 }) else answer_from (length bytes) 0 bytes
