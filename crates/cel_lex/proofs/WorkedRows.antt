-- Worked rows of the definitions.
use Rattle.std.proofs.Common.{◌≡◌, ℕ, [], ◌∷◌, Some, None, refl}
use Rattle.std.specs.Prelude.{codes}
use Rattle.cel_lex.specs.declared.token.Infix.TheVariants as op
use Rattle.cel_lex.specs.declared.token.TokenKind.{TokenKind}
use Rattle.cel_lex.specs.declared.token.TokenKind.TheVariants as kind
use Rattle.cel_lex.specs.declared.token.Token.{Token}
use Rattle.cel_lex.specs.declared.piece.Piece.TheVariants as piece
use Rattle.cel_lex.specs.declared.fault.LexFaultKind.TheVariants as fault
use Rattle.cel_lex.specs.Numbers.{out_of_range}
use Rattle.cel_lex.specs.Words.{word_of}
use Rattle.cel_lex.specs.Escapes.{meaning_of}
use Rattle.cel_lex.specs.Texts.{closed_at, faulty}
use Rattle.cel_lex.specs.Lexis.{piece_of, Cuts, Fails, end, blank, token, bad, after_token}
use Rattle.cel_lex.specs.Scan.{next_of}
use Rattle.cel_lex.proofs.PieceNext.{next_reads}

pub at_most_is_one_piece : piece_of (codes "<=") ≡ Some (piece.Token (kind.Operator op.AtMost))
unfolding piece_of
at_most_is_one_piece = refl

pub two_signs_are_no_piece : piece_of (codes "!!") ≡ None
unfolding piece_of
two_signs_are_no_piece = refl

pub keyword_is_no_name : piece_of (codes "true") ≡ Some (piece.Token kind.True)
unfolding piece_of word_of
keyword_is_no_name = refl

pub longer_word_is_a_name : piece_of (codes "true1") ≡ Some (piece.Token kind.Name)
unfolding piece_of word_of
longer_word_is_a_name = refl

pub reserved_word_is_no_name : piece_of (codes "for") ≡ Some (piece.Token kind.Reserved)
unfolding piece_of word_of
reserved_word_is_no_name = refl

pub too_large_is_no_token : piece_of (codes "9223372036854775809") ≡ Some out_of_range
unfolding piece_of
too_large_is_no_token = refl

pub hexadecimal_number : piece_of (codes "0x1Fu") ≡ Some (piece.Token (kind.Uint 31))
unfolding piece_of
hexadecimal_number = refl

pub greatest_uint : piece_of (codes "0xFFFFFFFFFFFFFFFFu") ≡ Some (piece.Token (kind.Uint 18446744073709551615))
unfolding piece_of
greatest_uint = refl

pub lone_mark_is_no_number : piece_of (codes "0x") ≡ None
unfolding piece_of
lone_mark_is_no_number = refl

pub comment_is_blank : piece_of (codes "// 1'") ≡ Some piece.Blank
unfolding piece_of
comment_is_blank = refl

-- '\u00e4' with a quote on each side
pub escape_is_one_character : piece_of (39 ∷ 92 ∷ 117 ∷ 48 ∷ 48 ∷ 101 ∷ 52 ∷ 39 ∷ [])
    ≡ Some (piece.Token (kind.Text (195 ∷ 164 ∷ [])))
unfolding piece_of closed_at meaning_of Rattle.std.specs.Char.encode_utf8
escape_is_one_character = refl

-- '\ud800' with a quote on each side
pub surrogate_is_no_character : piece_of (39 ∷ 92 ∷ 117 ∷ 100 ∷ 56 ∷ 48 ∷ 48 ∷ 39 ∷ []) ≡ Some (faulty fault.BadEscape 1)
unfolding piece_of closed_at meaning_of
surrogate_is_no_character = refl

pub open_text_is_unterminated : piece_of (codes "'abc") ≡ Some (faulty fault.Unterminated 0)
unfolding piece_of closed_at
open_text_is_unterminated = refl

pub two_quotes_are_inside_three : piece_of (codes "'''a''b'''") ≡ Some (piece.Token (kind.Text (codes "a''b")))
unfolding piece_of closed_at meaning_of
two_quotes_are_inside_three = refl

pub more_than_a_text_is_no_piece : piece_of (codes "'a''") ≡ None
unfolding piece_of closed_at
more_than_a_text_is_no_piece = refl

-- r'\n'
pub backslash_is_itself_in_a_raw_text : piece_of (114 ∷ 39 ∷ 92 ∷ 110 ∷ 39 ∷ [])
    ≡ Some (piece.Token (kind.Text (92 ∷ 110 ∷ [])))
unfolding piece_of closed_at
backslash_is_itself_in_a_raw_text = refl

abbrev token_at : TokenKind → ℕ → ℕ → Token
token_at kind start finish = record { kind = kind; start = start; end = finish }

-- "1 <=2"
pub blanks_are_left_out : Cuts 0 (codes "1 <=2")
    (token_at (kind.Int 1) 0 1 ∷ token_at (kind.Operator op.AtMost) 2 4 ∷ token_at (kind.Int 2) 4 5 ∷ [])
unfolding next_of
blanks_are_left_out =
    token {n = 1} (next_reads (codes "1 <=2"))
    (blank {n = 1} (next_reads (codes " <=2"))
    (token {n = 2} (next_reads (codes "<=2"))
    (token {n = 1} (next_reads (codes "2")) end)))

-- "1="
pub lone_equals_is_a_fault : Fails 0 (codes "1=") (record { kind = fault.BadChar; place = 1 })
unfolding next_of
lone_equals_is_a_fault = after_token {n = 1} (next_reads (codes "1=")) (bad (next_reads (codes "=")))
