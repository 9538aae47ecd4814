-- The answer for a text is its cut, or its fault.
use Rattle.std.proofs.Common.{◌≡◌, ℕ, zero, suc, ◌+◌, ◌<◌, ◌≤◌, Bool, true, false, cond, List, []}
use Rattle.std.proofs.Common.{◌∷◌, length, drop, Option, Some, None, Ok, Err, refl, ap, subst, arith, length-drop}
use Rattle.std.specs.Prelude.{nat_lt}
use Rattle.std.proofs.lemmas.Bool.Decides.{nat_tests}
use Rattle.cel_lex.specs.declared.token.Token.{Token}
use Rattle.cel_lex.specs.declared.token.TokenKind.{TokenKind}
use Rattle.cel_lex.specs.declared.piece.Piece.{Piece}
use Rattle.cel_lex.specs.declared.piece.Piece.TheVariants as piece
use Rattle.cel_lex.specs.declared.fault.LexFault.{LexFault}
use Rattle.cel_lex.specs.declared.fault.LexFaultKind.TheVariants as fault
use Rattle.cel_lex.specs.Lexis.{piece_of, IsNext, Cuts, Fails, IsCut, Refuses, too_long, first}
use Rattle.cel_lex.specs.Lexis.{end, blank, token, faulty, bad, after_blank, after_token}
use Rattle.cel_lex.specs.Scan.{next_of, Reads}
use Rattle.cel_lex.specs.Answer.{Answer, in_front, with_piece, with_next, answer_from, answer_of}
use Rattle.cel_lex.proofs.PieceNext.{next_reads}
use Rattle.cel_lex.proofs.Cutting.{one_cut, one_refusal, no_refusal}

-- from a place on, the text is cut so, or has this first fault
data IsRight (place : ℕ) (bytes : List ℕ) : Answer → Type 0 where
  cuts : {ts : List Token} → Cuts place bytes ts → IsRight place bytes (Ok ts)
  fails : {f : LexFault} → Fails place bytes f → IsRight place bytes (Err f)

behind_blank : {place : ℕ} {bytes : List ℕ} {n : ℕ} {r : Answer} → IsNext bytes n piece.Blank
    → IsRight (place + n) (drop n bytes) r
    → IsRight place bytes r
behind_blank h (cuts c) = cuts (blank h c)
behind_blank h (fails x) = fails (after_blank h x)

behind_token : {place : ℕ} {bytes : List ℕ} {n : ℕ} {r : Answer} (k : TokenKind) → IsNext bytes n (piece.Token k)
    → IsRight (place + n) (drop n bytes) r → IsRight place bytes (in_front (record { kind = k; start = place; end = place + n }) r)
behind_token k h (cuts c) = cuts (token h c)
behind_token k h (fails x) = fails (after_token h x)

by_piece : (place n b : ℕ) (bs : List ℕ) (w : Piece) (r : Answer) → IsNext (b ∷ bs) n w
    → IsRight (place + n) (drop n (b ∷ bs)) r
    → IsRight place (b ∷ bs) (with_piece place n w r)
by_piece place n b bs piece.Blank r h rest = behind_blank h rest
by_piece place n b bs (piece.Faulty f) r h rest = fails (faulty h)
by_piece place n b bs (piece.Token k) r h rest = behind_token k h rest

by_next : (place b : ℕ) (bs : List ℕ) (o : Option (ℕ × Piece)) (go : ℕ → Answer) → Reads (b ∷ bs) o → ((n : ℕ) → 0 < n
    → IsRight (place + n) (drop n (b ∷ bs)) (go n)) → IsRight place (b ∷ bs) (with_next place o go)
by_next place b bs None go r rest = fails (bad r)
by_next place b bs (Some x) go r rest = by_piece place x.0 b bs x.1 (go x.0) r (rest x.0 r.some)

from_right : (most place : ℕ) (bytes : List ℕ) → length bytes ≤ most → IsRight place bytes (answer_from most place bytes)
unfolding answer_from
from_right most place [] le = cuts end
from_right zero place (b ∷ bs) le = absurd (omega arith)
from_right (suc most) place (b ∷ bs) le =
    by_next place b bs (next_of (b ∷ bs)) (λ n. answer_from most (place + n) (drop n (b ∷ bs))) (next_reads (b ∷ bs))
    (λ n lt. from_right most (place + n) (drop n (b ∷ bs)) (let e = length-drop n (b ∷ bs) in omega arith))

-- the text is cut so, or has this fault
data IsAnswer (bytes : List ℕ) : Answer → Type 0 where
  is_cut : {ts : List Token} → IsCut bytes ts → IsAnswer bytes (Ok ts)
  is_refused : {f : LexFault} → Refuses bytes f → IsAnswer bytes (Err f)

short_answer : (bytes : List ℕ) (r : Answer) → length bytes ≤ 16384 → IsRight 0 bytes r → IsAnswer bytes r
short_answer bytes r le (cuts c) = is_cut (record { short = le; cut = c })
short_answer bytes r le (fails x) = is_refused (first le x)

by_length : (bytes : List ℕ) (b : Bool) → nat_lt 16384 (length bytes) ≡ b
    → IsAnswer bytes (cond b (Err (record { kind = fault.TooLong; place = 0 })) (answer_from (length bytes) 0 bytes))
by_length bytes true e = is_refused (too_long (grind (arith, nat_tests)))
by_length bytes false e = short_answer bytes _ (grind (arith, nat_tests)) (from_right (length bytes) 0 bytes (omega arith))

right_answer : (bytes : List ℕ) → IsAnswer bytes (answer_of bytes)
unfolding answer_of
right_answer bytes = by_length bytes (nat_lt 16384 (length bytes)) refl

cut_is : {bytes : List ℕ} {ts : List Token} {r : Answer} → IsCut bytes ts → IsAnswer bytes r → r ≡ Ok ts
cut_is c (is_cut d) = ap Ok (one_cut d.cut c.cut)
cut_is {bytes} {ts} c (is_refused {f} x) = absurd (no_refusal bytes ts f c x)

fault_is : {bytes : List ℕ} {f : LexFault} {r : Answer} → Refuses bytes f → IsAnswer bytes r → r ≡ Err f
fault_is {bytes} {f} x (is_cut {ts} d) = absurd (no_refusal bytes ts f d x)
fault_is {bytes} {f} x (is_refused {f = g} y) = ap Err (one_refusal bytes g f y x)

-- the answer is the cut, if there is one
pub answer_cut : (bytes : List ℕ) (ts : List Token) → IsCut bytes ts → answer_of bytes ≡ Ok ts
answer_cut bytes ts c = cut_is c (right_answer bytes)

-- and the fault, if there is one
pub answer_fault : (bytes : List ℕ) (f : LexFault) → Refuses bytes f → answer_of bytes ≡ Err f
answer_fault bytes f x = fault_is x (right_answer bytes)

cut_of : {bytes : List ℕ} {ts : List Token} {r : Answer} → r ≡ Ok ts → IsAnswer bytes r → IsCut bytes ts
cut_of {bytes} e (is_cut d) = subst (λ us. IsCut bytes us) (cc) d
cut_of e (is_refused x) = absurd cc

fault_of : {bytes : List ℕ} {f : LexFault} {r : Answer} → r ≡ Err f → IsAnswer bytes r → Refuses bytes f
fault_of e (is_cut d) = absurd cc
fault_of {bytes} e (is_refused x) = subst (λ g. Refuses bytes g) (cc) x

pub is_the_cut : (bytes : List ℕ) (ts : List Token) → answer_of bytes ≡ Ok ts → IsCut bytes ts
is_the_cut bytes ts e = cut_of e (right_answer bytes)

pub is_the_fault : (bytes : List ℕ) (f : LexFault) → answer_of bytes ≡ Err f → Refuses bytes f
is_the_fault bytes f e = fault_of e (right_answer bytes)
