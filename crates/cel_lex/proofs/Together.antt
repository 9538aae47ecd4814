-- A cut text is put together from its pieces.
use Rattle.std.proofs.Common.{◌≡◌, ℕ, ◌+◌, List, [], ◌∷◌, ◌++◌, length, take}
use Rattle.std.proofs.Common.{drop, Some, sym, ap, subst, arith, append_assoc, length-append}
use Rattle.std.proofs.lemmas.List.{take-append-drop, length-take-le}
use Rattle.cel_lex.specs.declared.token.Token.{Token}
use Rattle.cel_lex.specs.declared.piece.Piece.TheVariants as piece
use Rattle.cel_lex.specs.Lexis.{piece_of, Cuts, end, blank, token}
use Rattle.cel_lex.specs.Together.{nothing, one_more, IsTokenAt, IsTogether, last, next}

blank_before : (place : ℕ) (front rest : List ℕ) (ts : List Token) → piece_of front ≡ Some piece.Blank
    → IsTogether (place + length front) rest ts → IsTogether place (front ++ rest) ts
blank_before place front rest [] e (last b) = last (one_more front rest e b)
blank_before place front rest (t ∷ ts) e (next between own tail b at more) =
    let len = length-append front between in
    let same : place + length front + length between ≡ place + length (front ++ between) = omega arith in
    subst (λ (x : List ℕ). IsTogether place x (t ∷ ts)) (append_assoc front between (own ++ tail))
    (next (front ++ between) own tail (one_more front between e b) (subst (λ x. IsTokenAt x own t) same at) more)

split : (n : ℕ) (bytes : List ℕ) (place : ℕ) (ts : List Token) → IsTogether place (take n bytes ++ drop n bytes) ts
    → IsTogether place bytes ts
split n bytes place ts h = subst (λ (x : List ℕ). IsTogether place x ts) (take-append-drop n bytes) h

pub together : {place : ℕ} {bytes : List ℕ} {ts : List Token} → Cuts place bytes ts → IsTogether place bytes ts
together end = last nothing
together (blank {place} {bytes} {ts} {n} p c) =
    let len = length-take-le n bytes p.here in
    split n bytes place ts
    (blank_before place (take n bytes) (drop n bytes) ts p.piece
    (subst (λ x. IsTogether x (drop n bytes) ts) (ap (λ x. place + x) (sym len)) (together c)))
together (token {place} {bytes} {ts} {n} {k} p c) =
    let len = length-take-le n bytes p.here in
    split n bytes place (record { kind = k; start = place; end = place + n } ∷ ts)
    (next [] (take n bytes) (drop n bytes) nothing (record { start = omega arith; end = omega (arith, len); piece = p.piece }) (together c))
