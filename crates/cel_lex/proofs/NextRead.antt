-- What is read at a place of a text.
use Rattle.std.proofs.Common.{◌≡◌, ℕ, ◌+◌, ◌-◌, ◌<◌, ◌≤◌, Bool, true, false, cond, List}
use Rattle.std.proofs.Common.{[], ◌∷◌, length, take, drop, get_or, Option, Some, None, Result, Ok}
use Rattle.std.proofs.Common.{Err, IfOk, refl, sym, ap, subst, ◌∙◌, arith, length-drop, length-take}
use Rattle.std.specs.Char.{is_digit as is_digit_of}
use Rattle.std.specs.List.{prefix_len}
use Rattle.std.proofs.lemmas.List.{drop_more, take_rest, drop-drop}
use Rattle.cel_lex.specs.declared.literal.Style.{Style}
use Rattle.cel_lex.specs.declared.piece.Piece.{Piece}
use Rattle.cel_lex.specs.declared.piece.Piece.TheVariants as piece
use Rattle.cel_lex.specs.declared.token.TokenKind.{TokenKind}
use Rattle.cel_lex.specs.declared.token.TokenKind.TheVariants as kind
use Rattle.cel_lex.specs.Bytes.{is_space, is_letter, is_name}
use Rattle.cel_lex.specs.Numbers.{signed, unsigned, out_of_range, is_suffix, digits_in, is_hexadecimal}
use Rattle.cel_lex.specs.Words.{word_of}
use Rattle.cel_lex.specs.Symbols.{single, double, is_comment}
use Rattle.cel_lex.specs.Texts.{opening, closed_at, content_of, meant}
use Rattle.cel_lex.specs.Escapes.{meaning_of}
use Rattle.cel_lex.specs.Scan.{text_at, literal_at, number_at, digits_at, ends_at, further, symbol_at}
use Rattle.cel_lex.specs.Scan.{one_of, two_of, next_of, Reads, HasFaultWithin, IsNear}
use Rattle.cel_lex.proofs.PieceNext.{chosen_by, next_reads}
use Rattle.cel_lex.proofs.Openings.{is_opening}
use Rattle.cel_lex.proofs.EscapeParts.{bad_within}

next_is : (s d l : Bool) (o : Option (ℕ × Style)) (c : ℕ) (rest : List ℕ) → is_space c ≡ s → is_digit_of c 10 ≡ d
    → opening (c ∷ rest) ≡ o → is_letter c ≡ l → next_of (c ∷ rest) ≡ chosen_by s d o l c rest
unfolding next_of
next_is s d l o c rest es ed eo el =
    ap (λ x. chosen_by x (is_digit_of c 10) (opening (c ∷ rest)) (is_letter c) c rest) es
    ∙ ap (λ x. chosen_by s x (opening (c ∷ rest)) (is_letter c) c rest) ed
    ∙ ap (λ (x : Option (ℕ × Style)). chosen_by s d x (is_letter c) c rest) eo
    ∙ ap (λ x. chosen_by s d o x c rest) el

module _ (bytes : List ℕ) (place : ℕ) (lt : place < length bytes) where
  abbrev first : ℕ
  first = get_or bytes place 0

  abbrev others : List ℕ
  others = take (length bytes - (place + 1)) (drop (place + 1) bytes)

  abbrev here : List ℕ
  here = take (length bytes - place) (drop place bytes)

  from_here : drop place bytes ≡ first ∷ others
  from_here = drop_more bytes place 0 lt ∙ ap (λ (x : List ℕ). get_or bytes place 0 ∷ x) (sym (take_rest bytes (place + 1)))

  here_is : here ≡ first ∷ others
  here_is = take_rest bytes place ∙ from_here

  read : (s d l : Bool) (o : Option (ℕ × Style)) → is_space first ≡ s → is_digit_of first 10 ≡ d → opening here ≡ o
      → is_letter first ≡ l → chosen_by s d o l first others ≡ next_of (drop place bytes)
  read s d l o es ed eo el =
      sym
      (ap (λ (x : List ℕ). next_of x) from_here ∙ next_is s d l o first others es ed
      (ap (λ (x : List ℕ). opening x) (sym here_is) ∙ eo) el)

  pub space_read : is_space first ≡ true → Some (1 + prefix_len is_space others, piece.Blank) ≡ next_of (drop place bytes)
  space_read s = read true (is_digit_of first 10) (is_letter first) (opening here) s refl refl refl

  pub number_read : is_space first ≡ false → is_digit_of first 10 ≡ true → Some (number_at here) ≡ next_of (drop place bytes)
  number_read s d = ap (λ (x : List ℕ). Some (number_at x)) here_is ∙ read false true (is_letter first) (opening here) s d refl refl

  pub text_read : (o : ℕ × Style) → is_space first ≡ false → is_digit_of first 10 ≡ false → opening here ≡ Some o
      → Some (text_at o.0 o.1 (drop (place + o.0) bytes)) ≡ next_of (drop place bytes)
  text_read o s d e =
      ap (λ (x : List ℕ). Some (text_at o.0 o.1 x)) (sym (drop-drop o.0 place bytes) ∙ ap (drop o.0) from_here)
      ∙ read false false (is_letter first) (Some o) s d e refl

  pub word_read : is_space first ≡ false → is_digit_of first 10 ≡ false → opening here ≡ None → is_letter first ≡ true
      → (n : ℕ) → n ≡ prefix_len is_name others
      → Some (1 + n, piece.Token (word_of (take (1 + n) (drop place bytes)))) ≡ next_of (drop place bytes)
  word_read s d e l n is =
      ap (λ (x : ℕ). Some (1 + x, piece.Token (word_of (take (1 + x) (drop place bytes))))) is
      ∙ ap
      (λ (x : List ℕ). Some (1 + prefix_len is_name others, piece.Token (word_of (take (1 + prefix_len is_name others) x)))) from_here
      ∙ read false false true None s d e l

  pub symbol_read : is_space first ≡ false → is_digit_of first 10 ≡ false → opening here ≡ None → is_letter first ≡ false
      → symbol_at first others ≡ next_of (drop place bytes)
  symbol_read s d e l = read false false false None s d e l

pub reads_ok : {E : Type 0} (bytes : List ℕ) (r : Result (Option (ℕ × Piece)) E) → IfOk r (λ o. o ≡ next_of bytes)
    → IfOk r (λ o. Reads bytes o)
reads_ok bytes (Ok o) e = subst (λ x. Reads bytes x) (sym e) (next_reads bytes)
reads_ok bytes (Err x) e = tt

-- faults are near

range_near : (n : ℕ) (b : Bool) (k : TokenKind) → HasFaultWithin n (cond b (piece.Token k) out_of_range)
range_near n true k = tt
range_near n false k = omega arith

abbrev Near : ℕ → ℕ × Piece → Type 0
Near n x = HasFaultWithin n x.1

suffix_near : (n k value : ℕ) (b : Bool) → Near n (cond {A = ℕ × Piece} b (k + 1, unsigned value) (k, signed value))
suffix_near n k value true = range_near n _ (kind.Uint value)
suffix_near n k value false = range_near n _ (kind.Int value)

ends_near : (n k value : ℕ) (tail : List ℕ) → Near n (ends_at k value tail)
ends_near n k value [] = range_near n _ (kind.Int value)
ends_near n k value (c ∷ rest) = suffix_near n k value (is_suffix c)

number_by : (n : ℕ) (b : Bool) (x y : ℕ × Piece) → Near n x → Near n y → Near n (cond {A = ℕ × Piece} b (further 2 x) y)
number_by n true x y h k = h
number_by n false x y h k = k

number_near : (n : ℕ) (bytes : List ℕ) → Near n (number_at bytes)
number_near n bytes =
    number_by n (is_hexadecimal bytes) (digits_at 16 (drop 2 bytes)) (digits_at 10 bytes)
    (ends_near n _ _ (drop (digits_in 16 (drop 2 bytes)) (drop 2 bytes))) (ends_near n _ _ (drop (digits_in 10 bytes) bytes))

meant_near : (before : ℕ) (body : List ℕ) (r : Result (List ℕ) ℕ) → meaning_of 0 body ≡ r
    → HasFaultWithin (before + length body) (meant before r)
meant_near before body (Ok v) e = tt
meant_near before body (Err k) e = let lt = bad_within 0 body k e in omega arith

content_by : (before : ℕ) (body : List ℕ) (b : Bool)
    → HasFaultWithin (before + length body) (cond b (piece.Token (kind.Text body)) (meant before (meaning_of 0 body)))
content_by before body true = tt
content_by before body false = meant_near before body (meaning_of 0 body) refl

nearer : (n m : ℕ) (p : Piece) → n ≤ m → HasFaultWithin n p → HasFaultWithin m p
nearer n m (piece.Faulty f) le h = omega arith
nearer n m piece.Blank le h = tt
nearer n m (piece.Token k) le h = tt

literal_near : (before : ℕ) (s : Style) (inside : List ℕ) (o : Option ℕ)
    → Near (before + length inside) (literal_at before s inside o)
literal_near before s inside None = omega arith
literal_near before s inside (Some n) =
    nearer (before + length (take n inside)) (before + length inside) (content_of before s (take n inside))
    (omega (arith, length-take n inside)) (content_by before (take n inside) s.is_raw)

text_near : (c : ℕ) (rest : List ℕ) (o : ℕ × Style) → opening (c ∷ rest) ≡ Some o
    → Near (4 + length (c ∷ rest)) (text_at o.0 o.1 (drop o.0 (c ∷ rest)))
text_near c rest o e =
    let small = (is_opening c rest o e).small in
    nearer (o.0 + length (drop o.0 (c ∷ rest))) (4 + length (c ∷ rest)) _ (omega (arith, length-drop o.0 (c ∷ rest)))
    (literal_near o.0 o.1 (drop o.0 (c ∷ rest)) (closed_at o.1 false (drop o.0 (c ∷ rest))))

one_near : (n : ℕ) (o : Option TokenKind) → IsNear n (one_of o)
one_near n None = tt
one_near n (Some k) = tt

two_near : (n : ℕ) (o : Option TokenKind) (r : Option (ℕ × Piece)) → IsNear n r → IsNear n (two_of o r)
two_near n None r h = h
two_near n (Some k) r h = tt

symbol_by : (n : ℕ) (b : Bool) (x : ℕ) (r : Option (ℕ × Piece)) → IsNear n r → IsNear n (cond b (Some (x, piece.Blank)) r)
symbol_by n true x r h = tt
symbol_by n false x r h = h

symbol_near : (n c : ℕ) (rest : List ℕ) → IsNear n (symbol_at c rest)
symbol_near n c [] = one_near n (single c)
symbol_near n c (d ∷ rest) = symbol_by n (is_comment c d) _ _ (two_near n (double c d) (one_of (single c)) (one_near n (single c)))

chosen_near : (s d l : Bool) (o : Option (ℕ × Style)) (c : ℕ) (rest : List ℕ) → opening (c ∷ rest) ≡ o
    → IsNear (4 + length (c ∷ rest)) (chosen_by s d o l c rest)
chosen_near true d l o c rest e = tt
chosen_near false true l o c rest e = number_near (4 + length (c ∷ rest)) (c ∷ rest)
chosen_near false false l (Some o) c rest e = text_near c rest o e
chosen_near false false true None c rest e = tt
chosen_near false false false None c rest e = symbol_near (4 + length (c ∷ rest)) c rest

next_near : (bytes : List ℕ) → IsNear (4 + length bytes) (next_of bytes)
unfolding next_of
next_near [] = tt
next_near (c ∷ rest) = chosen_near (is_space c) (is_digit_of c 10) (is_letter c) (opening (c ∷ rest)) c rest refl

nearer_read : (n m : ℕ) (o : Option (ℕ × Piece)) → n ≤ m → IsNear n o → IsNear m o
nearer_read n m None le h = tt
nearer_read n m (Some x) le h = nearer n m x.1 le h

pub near_ok : {E : Type 0} (bytes : List ℕ) (place : ℕ) (r : Result (Option (ℕ × Piece)) E)
    → IfOk r (λ o. o ≡ next_of (drop place bytes)) → IfOk r (λ o. IsNear (4 + length bytes) o)
near_ok bytes place (Ok o) e =
    subst (λ x. IsNear (4 + length bytes) x) (sym e)
    (nearer_read (4 + length (drop place bytes)) (4 + length bytes) (next_of (drop place bytes)) (omega (arith, length-drop place bytes))
    (next_near (drop place bytes)))
near_ok bytes place (Err x) e = tt
