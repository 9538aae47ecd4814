-- What is read next is the longest piece.
use Rattle.std.proofs.Common.{◌≡◌, ℕ, zero, suc, ◌+◌, ◌≤◌, Bool, true, false, cond}
use Rattle.std.proofs.Common.{List, [], ◌∷◌, take, Option, Some, None, refl, ap, ◌∙◌}
use Rattle.std.specs.Char.{is_digit as is_digit_of}
use Rattle.std.specs.List.{prefix_len}
use Rattle.cel_lex.specs.declared.literal.Style.{Style}
use Rattle.cel_lex.specs.declared.piece.Piece.{Piece}
use Rattle.cel_lex.specs.declared.piece.Piece.TheVariants as piece
use Rattle.cel_lex.specs.Bytes.{is_space, is_letter, is_name}
use Rattle.cel_lex.specs.Numbers.{number_of}
use Rattle.cel_lex.specs.Words.{word_of}
use Rattle.cel_lex.specs.Symbols.{run_of, symbol_of}
use Rattle.cel_lex.specs.Texts.{opening}
use Rattle.cel_lex.specs.Lexis.{text_or, piece_of}
use Rattle.cel_lex.specs.Scan.{Reads, number_at, symbol_at, word_at, literal_or, next_of}
use Rattle.cel_lex.proofs.Runs.{IsRun, run_next}
use Rattle.cel_lex.proofs.Openings.{opening_none}
use Rattle.cel_lex.proofs.NumberNext.{IsNumeric, number_next}
use Rattle.cel_lex.proofs.TextNext.{IsTextual, text_next}
use Rattle.cel_lex.proofs.SymbolNext.{IsSymbolic, symbol_reads}

-- what the whole of some bytes is by what the first is
abbrev whole_by : Bool → Bool → Option (ℕ × Style) → Bool → ℕ → List ℕ → Option Piece
whole_by s d o l c rest =
    cond s (run_of is_space piece.Blank rest)
    (cond d (number_of (c ∷ rest))
    (text_or o (c ∷ rest) (cond l (run_of is_name (piece.Token (word_of (c ∷ rest))) rest) (symbol_of c rest))))

whole_is : (s d l : Bool) (o : Option (ℕ × Style)) (c : ℕ) (rest : List ℕ) → is_space c ≡ s → is_digit_of c 10 ≡ d
    → opening (c ∷ rest) ≡ o → is_letter c ≡ l → piece_of (c ∷ rest) ≡ whole_by s d o l c rest
unfolding piece_of
whole_is s d l o c rest es ed eo el =
    ap (λ x. whole_by x (is_digit_of c 10) (opening (c ∷ rest)) (is_letter c) c rest) es
    ∙ ap (λ x. whole_by s x (opening (c ∷ rest)) (is_letter c) c rest) ed
    ∙ ap (λ (x : Option (ℕ × Style)). whole_by s d x (is_letter c) c rest) eo
    ∙ ap (λ x. whole_by s d o x c rest) el

space_run : (c : ℕ) (rest : List ℕ) → is_space c ≡ true → IsRun c rest is_space (λ _. piece.Blank)
space_run c rest s = record { reads = λ m. whole_is true _ _ _ c (take m rest) s refl refl refl }

numeric : (c : ℕ) (rest : List ℕ) → is_space c ≡ false → is_digit_of c 10 ≡ true → IsNumeric c rest
numeric c rest s d = record { digit = d; reads = λ m. whole_is false true _ _ c (take m rest) s d refl refl }

textual : (c : ℕ) (rest : List ℕ) (o : ℕ × Style) → is_space c ≡ false → is_digit_of c 10 ≡ false
    → opening (c ∷ rest) ≡ Some o → IsTextual c rest o
textual c rest o s d e = record { opens = e; reads = λ m k. whole_is false false _ (Some o) c (take m rest) s d k refl }

letter_run : (c : ℕ) (rest : List ℕ) → is_space c ≡ false → is_digit_of c 10 ≡ false → opening (c ∷ rest) ≡ None
    → is_letter c ≡ true → IsRun c rest is_name (λ text. piece.Token (word_of text))
letter_run c rest s d o l = record { reads = λ m. whole_is false false true None c (take m rest) s d (opening_none c rest m o) l }

symbolic : (c : ℕ) (rest : List ℕ) → is_space c ≡ false → is_digit_of c 10 ≡ false → opening (c ∷ rest) ≡ None
    → is_letter c ≡ false → IsSymbolic c rest
symbolic c rest s d o l = record { reads = λ m. whole_is false false false None c (take m rest) s d (opening_none c rest m o) l }

abbrev pub chosen_by : Bool → Bool → Option (ℕ × Style) → Bool → ℕ → List ℕ → Option (ℕ × Piece)
chosen_by s d o l c rest =
    cond s (Some (1 + prefix_len is_space rest, piece.Blank))
    (cond d (Some (number_at (c ∷ rest)))
    (literal_or o (c ∷ rest) (cond l (Some (word_at c rest)) (symbol_at c rest))))

chosen_reads : (s d l : Bool) (o : Option (ℕ × Style)) (c : ℕ) (rest : List ℕ) → is_space c ≡ s → is_digit_of c 10 ≡ d
    → opening (c ∷ rest) ≡ o → is_letter c ≡ l → Reads (c ∷ rest) (chosen_by s d o l c rest)
chosen_reads true d l o c rest es ed eo el = run_next c rest is_space (λ _. piece.Blank) (space_run c rest es)
chosen_reads false true l o c rest es ed eo el = number_next c rest (numeric c rest es ed)
chosen_reads false false l (Some o) c rest es ed eo el = text_next c rest o (textual c rest o es ed eo)
chosen_reads false false true None c rest es ed eo el =
    run_next c rest is_name (λ text. piece.Token (word_of text)) (letter_run c rest es ed eo el)
chosen_reads false false false None c rest es ed eo el = symbol_reads c rest (symbolic c rest es ed eo el)

-- what is read next is the longest piece, and nothing is read only if no front is one
pub next_reads : (bytes : List ℕ) → Reads bytes (next_of bytes)
unfolding next_of piece_of
next_reads [] = none
  where
    none : (m : ℕ) → m ≤ 0 → piece_of (take m []) ≡ None
    none zero le = refl
    none (suc m) le = refl
next_reads (c ∷ rest) = chosen_reads (is_space c) (is_digit_of c 10) (is_letter c) (opening (c ∷ rest)) c rest refl refl refl refl
