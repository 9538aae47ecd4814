-- A text has one cut, or one first fault.
use Rattle.std.proofs.Common.{◌≡◌, ℕ, ◌+◌, ◌≤◌, List, [], ◌∷◌, length, take, drop}
use Rattle.std.proofs.Common.{None, refl, sym, ap, subst, ◌∙◌, inl, inr, arith}
use Rattle.std.proofs.lemmas.Bool.{cases_lt}
use Rattle.cel_lex.specs.declared.token.TokenKind.{TokenKind}
use Rattle.cel_lex.specs.declared.token.Token.{Token}
use Rattle.cel_lex.specs.declared.piece.Piece.{Piece}
use Rattle.cel_lex.specs.declared.fault.LexFault.{LexFault}
use Rattle.cel_lex.specs.Lexis.{piece_of, IsNext, Cuts, Fails, IsCut, Refuses, too_long, first}
use Rattle.cel_lex.specs.Lexis.{end, blank, token, faulty, bad, after_blank, after_token}

abbrev none_at : List ℕ → ℕ → Type 0
none_at bytes m = piece_of (take m bytes) ≡ None

next_length : {bytes : List ℕ} {n m : ℕ} {v w : Piece} → IsNext bytes n v → IsNext bytes m w → n ≡ m
next_length {bytes} {n} {m} p q =
    elim (cases_lt n m) [
      | inl lt ↦ absurd (let h = p.longest m lt q.here in let g = q.piece in cc)
      | inr le ↦ elim (cases_lt m n) [
        | inl lt ↦ absurd (let h = q.longest n lt p.here in let g = p.piece in cc)
        | inr le' ↦ omega arith
      ]
    ]

next_what : {bytes : List ℕ} {n m : ℕ} {v w : Piece} → IsNext bytes n v → IsNext bytes m w → v ≡ w
next_what {bytes} p q =
    let e = next_length p q in
    let h = p.piece in
    let g = q.piece in
    let k = ap (λ n. piece_of (take n bytes)) e in
    cc

not_empty : {n : ℕ} {v : Piece} → IsNext [] n v → ⊥
not_empty p = let a = p.some in let b = p.here in omega arith

pub one_cut : {place : ℕ} {bytes : List ℕ} {ts us : List Token} → Cuts place bytes ts → Cuts place bytes us → ts ≡ us
one_cut end end = refl
one_cut end (blank q d) = absurd (not_empty q)
one_cut end (token q d) = absurd (not_empty q)
one_cut (blank p c) end = absurd (not_empty p)
one_cut (blank {place} {bytes} {ts} p c) (blank {ts = us} q d) =
    one_cut c (subst (λ n. Cuts (place + n) (drop n bytes) us) (next_length q p) d)
one_cut (blank p c) (token q d) = absurd (let e = next_what p q in cc)
one_cut (token p c) end = absurd (not_empty p)
one_cut (token p c) (blank q d) = absurd (let e = next_what p q in cc)
one_cut (token {place} {bytes} {ts} {n} {k} p c) (token {ts = us} {n = m} {k = j} q d) =
    let e = next_length p q in
    let w = next_what p q in
    let kinds : k ≡ j = cc in
    let rest = one_cut c (subst (λ n. Cuts (place + n) (drop n bytes) us) (sym e) d) in
    ap (λ (x : TokenKind). record { kind = x; start = place; end = place + n } ∷ ts) kinds
    ∙ ap (λ x. record { kind = j; start = place; end = place + x } ∷ ts) e
    ∙ ap (λ (x : List Token). record { kind = j; start = place; end = place + m } ∷ x) rest

-- a front that is a piece is no fault
not_bad : {bytes : List ℕ} {n : ℕ} {v : Piece} → IsNext bytes n v
    → ((m : ℕ) → m ≤ length bytes → piece_of (take m bytes) ≡ None) → ⊥
not_bad {n = n} p none = let h = none n p.here in let g = p.piece in cc

pub no_fault : {place : ℕ} {bytes : List ℕ} {ts : List Token} {f : LexFault} → Cuts place bytes ts → Fails place bytes f → ⊥
no_fault end (faulty q) = not_empty q
no_fault end (after_blank q d) = not_empty q
no_fault end (after_token q d) = not_empty q
no_fault (blank p c) (faulty q) = let e = next_what p q in cc
no_fault (blank p c) (bad none) = not_bad p none
no_fault (blank {place} {bytes} p c) (after_blank {f = f} q d) =
    no_fault c (subst (λ n. Fails (place + n) (drop n bytes) f) (next_length q p) d)
no_fault (blank p c) (after_token q d) = let e = next_what p q in cc
no_fault (token p c) (faulty q) = let e = next_what p q in cc
no_fault (token p c) (bad none) = not_bad p none
no_fault (token p c) (after_blank q d) = let e = next_what p q in cc
no_fault (token {place} {bytes} p c) (after_token {f = f} q d) =
    no_fault c (subst (λ n. Fails (place + n) (drop n bytes) f) (next_length q p) d)

pub one_fault : {place : ℕ} {bytes : List ℕ} {f g : LexFault} → Fails place bytes f → Fails place bytes g → f ≡ g
one_fault (faulty {place} {f = f} p) (faulty {f = g} q) =
    let e = next_what p q in
    let same : f ≡ g = cc in
    ap (λ (x : LexFault). record { kind = x.kind; place = place + x.place }) same
one_fault (faulty p) (bad none) = absurd (not_bad p none)
one_fault (faulty p) (after_blank q d) = absurd (let e = next_what p q in cc)
one_fault (faulty p) (after_token q d) = absurd (let e = next_what p q in cc)
one_fault (bad none) (faulty q) = absurd (not_bad q none)
one_fault (bad none) (bad none') = refl
one_fault (bad none) (after_blank q d) = absurd (not_bad q none)
one_fault (bad none) (after_token q d) = absurd (not_bad q none)
one_fault (after_blank p c) (faulty q) = absurd (let e = next_what p q in cc)
one_fault (after_blank p c) (bad none) = absurd (not_bad p none)
one_fault (after_blank {place} {bytes} p c) (after_blank {f = g} q d) =
    one_fault c (subst (λ n. Fails (place + n) (drop n bytes) g) (next_length q p) d)
one_fault (after_blank p c) (after_token q d) = absurd (let e = next_what p q in cc)
one_fault (after_token p c) (faulty q) = absurd (let e = next_what p q in cc)
one_fault (after_token p c) (bad none) = absurd (not_bad p none)
one_fault (after_token p c) (after_blank q d) = absurd (let e = next_what p q in cc)
one_fault (after_token {place} {bytes} p c) (after_token {f = g} q d) =
    one_fault c (subst (λ n. Fails (place + n) (drop n bytes) g) (next_length q p) d)

-- the fault of a text is one
pub one_refusal : (bytes : List ℕ) (f g : LexFault) → Refuses bytes f → Refuses bytes g → f ≡ g
one_refusal bytes f g (too_long long) (too_long long') = refl
one_refusal bytes f g (too_long long) (first short fails) = absurd (omega arith)
one_refusal bytes f g (first short fails) (too_long long) = absurd (omega arith)
one_refusal bytes f g (first short fails) (first short' fails') = one_fault fails fails'

-- a text that is cut has no fault
pub no_refusal : (bytes : List ℕ) (ts : List Token) (f : LexFault) → IsCut bytes ts → Refuses bytes f → ⊥
no_refusal bytes ts f c (too_long long) = let short = c.short in omega arith
no_refusal bytes ts f c (first short fails) = no_fault c.cut fails
