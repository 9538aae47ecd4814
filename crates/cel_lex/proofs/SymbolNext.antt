-- The symbol or comment that is read next is the longest piece.
use Rattle.std.proofs.Common.{◌≡◌, ℕ, zero, suc, ◌+◌, ◌<◌, ◌≤◌, Bool, true, false, cond, List}
use Rattle.std.proofs.Common.{[], ◌∷◌, length, take, Option, Some, None, option_map, refl, ap, ◌∙◌, arith}
use Rattle.std.specs.List.{list_all, prefix_len}
use Rattle.std.proofs.lemmas.List.Sums.{prefix_len-le-length}
use Rattle.cel_lex.specs.declared.token.TokenKind.{TokenKind}
use Rattle.cel_lex.specs.declared.piece.Piece.{Piece}
use Rattle.cel_lex.specs.declared.piece.Piece.TheVariants as piece
use Rattle.cel_lex.specs.Bytes.{is_inline}
use Rattle.cel_lex.specs.Symbols.{single, double, is_comment, run_of, pair_of, symbol_of}
use Rattle.cel_lex.specs.Lexis.{piece_of, IsNext}
use Rattle.cel_lex.specs.Scan.{Reads, one_of, two_of, symbol_at}
use Rattle.cel_lex.proofs.Runs.{front_passes, longer_fails}

-- a byte that begins a symbol or a comment, or no piece
pub record IsSymbolic (c : ℕ) (rest : List ℕ) : Type 0 where
  pub reads : (m : ℕ) → piece_of (c ∷ take m rest) ≡ symbol_of c (take m rest)

-- what is read of two bytes and more
pair_reads : (c d : ℕ) (rest : List ℕ) (m : ℕ) → IsSymbolic c (d ∷ rest) → is_comment c d ≡ false
    → piece_of (take (suc (suc m)) (c ∷ d ∷ rest)) ≡ pair_of c d (take m rest)
pair_reads c d rest m s other =
    s.reads (suc m) ∙ ap (λ b. cond b (run_of is_inline piece.Blank (take m rest)) (pair_of c d (take m rest))) other

third : (c d : ℕ) (rest : List ℕ) (m : ℕ) → IsSymbolic c (d ∷ rest) → is_comment c d ≡ false
    → suc (suc (suc m)) ≤ length (c ∷ d ∷ rest) → piece_of (take (suc (suc (suc m))) (c ∷ d ∷ rest)) ≡ None
third c d [] m s other le = absurd (omega arith)
third c d (x ∷ rest) m s other le = pair_reads c d (x ∷ rest) (suc m) s other

second : (c d : ℕ) (rest : List ℕ) → IsSymbolic c (d ∷ rest) → is_comment c d ≡ false
    → piece_of (take 2 (c ∷ d ∷ rest)) ≡ option_map piece.Token (double c d)
second c d rest s other = pair_reads c d rest 0 s other

double_next : (c d : ℕ) (rest : List ℕ) (k : TokenKind) → IsSymbolic c (d ∷ rest) → is_comment c d ≡ false
    → double c d ≡ Some k → IsNext (c ∷ d ∷ rest) 2 (piece.Token k)
double_next c d rest k s other h = record {
  some = omega arith;
  here = omega arith;
  piece = second c d rest s other ∙ ap (option_map piece.Token) h;
  longest = longer;
}
  where
    longer : (m : ℕ) → 2 < m → m ≤ length (c ∷ d ∷ rest) → piece_of (take m (c ∷ d ∷ rest)) ≡ None
    longer zero lt le = absurd (omega arith)
    longer (suc zero) lt le = absurd (omega arith)
    longer (suc (suc zero)) lt le = absurd (omega arith)
    longer (suc (suc (suc m))) lt le = third c d rest m s other le

-- no front of two bytes or more
none_longer : (c d : ℕ) (rest : List ℕ) → IsSymbolic c (d ∷ rest) → is_comment c d ≡ false → double c d ≡ None → (m : ℕ)
    → 1 < m → m ≤ length (c ∷ d ∷ rest) → piece_of (take m (c ∷ d ∷ rest)) ≡ None
none_longer c d rest s other h zero lt le = absurd (omega arith)
none_longer c d rest s other h (suc zero) lt le = absurd (omega arith)
none_longer c d rest s other h (suc (suc zero)) lt le = second c d rest s other ∙ ap (option_map piece.Token) h
none_longer c d rest s other h (suc (suc (suc m))) lt le = third c d rest m s other le

abbrev Longer : ℕ → List ℕ → Type 0
Longer c rest = (m : ℕ) → 1 < m → m ≤ length (c ∷ rest) → piece_of (take m (c ∷ rest)) ≡ None

-- what one byte is, if no longer front is a piece
one_reads : (c : ℕ) (rest : List ℕ) (o : Option TokenKind) → IsSymbolic c rest → single c ≡ o → Longer c rest
    → Reads (c ∷ rest) (one_of o)
unfolding piece_of
one_reads c rest (Some k) s h longer = record {
  some = omega arith;
  here = omega arith;
  piece = s.reads 0 ∙ ap (option_map piece.Token) h;
  longest = longer;
}
one_reads c rest None s h longer = none
  where
    none : (m : ℕ) → m ≤ length (c ∷ rest) → piece_of (take m (c ∷ rest)) ≡ None
    none zero le = refl
    none (suc zero) le = s.reads 0 ∙ ap (option_map piece.Token) h
    none (suc (suc m)) le = longer (suc (suc m)) (omega arith) le

two_reads : (c d : ℕ) (rest : List ℕ) (o : Option TokenKind) → IsSymbolic c (d ∷ rest) → is_comment c d ≡ false
    → double c d ≡ o → Reads (c ∷ d ∷ rest) (two_of o (one_of (single c)))
two_reads c d rest (Some k) s other h = double_next c d rest k s other h
two_reads c d rest None s other h = one_reads c (d ∷ rest) (single c) s refl (none_longer c d rest s other h)

comment_reads : (c d : ℕ) (rest : List ℕ) (m : ℕ) → IsSymbolic c (d ∷ rest) → is_comment c d ≡ true
    → piece_of (take (suc (suc m)) (c ∷ d ∷ rest)) ≡ run_of is_inline piece.Blank (take m rest)
comment_reads c d rest m s slashes =
    s.reads (suc m) ∙ ap (λ b. cond b (run_of is_inline piece.Blank (take m rest)) (pair_of c d (take m rest))) slashes

comment_next : (c d : ℕ) (rest : List ℕ) → IsSymbolic c (d ∷ rest) → is_comment c d ≡ true
    → IsNext (c ∷ d ∷ rest) (2 + prefix_len is_inline rest) piece.Blank
comment_next c d rest s slashes =
    let le = prefix_len-le-length is_inline rest in
    let n = prefix_len is_inline rest in
    record { some = omega arith; here = omega arith; piece = here (2 + n) n (omega arith) refl; longest = longer }
  where
    here : (m n : ℕ) → m ≡ suc (suc n) → n ≡ prefix_len is_inline rest
        → piece_of (take m (c ∷ d ∷ rest)) ≡ Some piece.Blank
    here m n e k =
        ap (λ (x : ℕ). piece_of (take x (c ∷ d ∷ rest))) e
        ∙ comment_reads c d rest n s slashes
        ∙ ap (λ b. cond b (Some piece.Blank) None) (ap (λ x. list_all is_inline (take x rest)) k ∙ front_passes is_inline rest)

    longer : (m : ℕ) → 2 + prefix_len is_inline rest < m → m ≤ length (c ∷ d ∷ rest)
        → piece_of (take m (c ∷ d ∷ rest)) ≡ None
    longer zero lt le = absurd (omega arith)
    longer (suc zero) lt le = absurd (omega arith)
    longer (suc (suc m)) lt le =
        comment_reads c d rest m s slashes
        ∙ ap (λ b. cond b (Some piece.Blank) None) (longer_fails is_inline rest m (omega arith) (omega arith))

abbrev chosen : Bool → ℕ → ℕ → List ℕ → Option (ℕ × Piece)
chosen b c d rest = cond b (Some (2 + prefix_len is_inline rest, piece.Blank)) (two_of (double c d) (one_of (single c)))

chosen_reads : (b : Bool) (c d : ℕ) (rest : List ℕ) → is_comment c d ≡ b → IsSymbolic c (d ∷ rest)
    → Reads (c ∷ d ∷ rest) (chosen b c d rest)
chosen_reads true c d rest e s = comment_next c d rest s e
chosen_reads false c d rest e s = two_reads c d rest (double c d) s e refl

pub symbol_reads : (c : ℕ) (rest : List ℕ) → IsSymbolic c rest → Reads (c ∷ rest) (symbol_at c rest)
symbol_reads c [] s = one_reads c [] (single c) s refl (λ m lt le. absurd (omega arith))
symbol_reads c (d ∷ rest) s = chosen_reads (is_comment c d) c d rest refl s
