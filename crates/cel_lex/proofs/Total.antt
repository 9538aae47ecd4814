-- A text is cut, or has a fault.
use Rattle.std.proofs.Common.{ℕ, zero, suc, ◌+◌, ◌<◌, ◌≤◌, List, [], ◌∷◌}
use Rattle.std.proofs.Common.{length, drop, Option, Some, None, inl, inr, arith, length-drop}
use Rattle.std.proofs.lemmas.Bool.{cases_lt}
use Rattle.cel_lex.specs.declared.token.Token.{Token}
use Rattle.cel_lex.specs.declared.token.TokenKind.{TokenKind}
use Rattle.cel_lex.specs.declared.piece.Piece.{Piece}
use Rattle.cel_lex.specs.declared.piece.Piece.TheVariants as piece
use Rattle.cel_lex.specs.declared.fault.LexFault.{LexFault}
use Rattle.cel_lex.specs.Lexis.{IsNext, Cuts, Fails, too_long, first, end, blank, token, faulty, bad, after_blank, after_token}
use Rattle.cel_lex.specs.Total.{HasAnswer, is_cut, is_refused}
use Rattle.cel_lex.specs.Scan.{next_of, Reads}
use Rattle.cel_lex.proofs.PieceNext.{next_reads}

-- from a place on, the text is cut or has a first fault
data Found (place : ℕ) (bytes : List ℕ) : Type 0 where
  cuts : {ts : List Token} → Cuts place bytes ts → Found place bytes
  fails : {f : LexFault} → Fails place bytes f → Found place bytes

behind_blank : {place : ℕ} {bytes : List ℕ} {n : ℕ} → IsNext bytes n piece.Blank → Found (place + n) (drop n bytes)
    → Found place bytes
behind_blank h (cuts c) = cuts (blank h c)
behind_blank h (fails x) = fails (after_blank h x)

behind_token : {place : ℕ} {bytes : List ℕ} {n : ℕ} (k : TokenKind) → IsNext bytes n (piece.Token k)
    → Found (place + n) (drop n bytes) → Found place bytes
behind_token k h (cuts c) = cuts (token h c)
behind_token k h (fails x) = fails (after_token h x)

by_piece : (place n b : ℕ) (bs : List ℕ) (w : Piece) → IsNext (b ∷ bs) n w → Found (place + n) (drop n (b ∷ bs))
    → Found place (b ∷ bs)
by_piece place n b bs piece.Blank h rest = behind_blank h rest
by_piece place n b bs (piece.Faulty f) h rest = fails (faulty h)
by_piece place n b bs (piece.Token k) h rest = behind_token k h rest

by_next : (place b : ℕ) (bs : List ℕ) (o : Option (ℕ × Piece)) → Reads (b ∷ bs) o
    → ((n : ℕ) → 0 < n → Found (place + n) (drop n (b ∷ bs))) → Found place (b ∷ bs)
by_next place b bs None r rest = fails (bad r)
by_next place b bs (Some x) r rest = by_piece place x.0 b bs x.1 r (rest x.0 r.some)

-- by how many bytes there are at most
found : (k place : ℕ) (bytes : List ℕ) → length bytes ≤ k → Found place bytes
found k place [] le = cuts end
found zero place (b ∷ bs) le = absurd (omega arith)
found (suc k) place (b ∷ bs) le =
    by_next place b bs (next_of (b ∷ bs)) (next_reads (b ∷ bs))
    (λ n lt. found k (place + n) (drop n (b ∷ bs)) (let e = length-drop n (b ∷ bs) in omega arith))

short_answer : (bytes : List ℕ) → length bytes ≤ 16384 → Found 0 bytes → HasAnswer bytes
short_answer bytes le (cuts c) = is_cut (record { short = le; cut = c })
short_answer bytes le (fails x) = is_refused (first le x)

pub has_answer : (bytes : List ℕ) → HasAnswer bytes
has_answer bytes = elim (cases_lt 16384 (length bytes)) [
  | inl lt ↦ is_refused (too_long lt)
  | inr le ↦ short_answer bytes le (found (length bytes) 0 bytes (omega arith))
]
