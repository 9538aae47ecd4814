use Rattle.std.proofs.Common.{◌≡◌, ◌+◌, ◌-◌, ◌<◌, ℕ, List, Some, length, take, drop, sym, ap, ◌∙◌, arith}
use Rattle.cel_lex.specs.declared.token.TokenKind.{TokenKind}
use Rattle.cel_lex.specs.declared.piece.Piece.{Piece}
use Rattle.cel_lex.specs.declared.piece.Piece.TheVariants as piece
use Rattle.cel_lex.specs.Words.{word_of}
use Rattle.cel_lex.specs.Scan.{next_of}
use Rattle.cel_lex.proofs.NextRead.{space_read, number_read, text_read, word_read, symbol_read}
use Rattle.cel_lex.proofs.LiteralParts.{opening_cut}
use Rattle.cel_lex.proofs.piece.next.Goals as goal

-- the place is within the bytes
shorter : (bytes text : List ℕ) (place : ℕ) → bytes ≡ text → place < length text → place < length bytes
shorter bytes text place e lt = omega (arith, ap length e)

pub returns-then-is_in : goal.returns-then-is_in
returns-then-is_in c =
    let same = c.as_bytes-bytes.ensures.value in
    ap (λ (x : ℕ). Some (1 + x, piece.Blank)) c.run_len.ensures.value
    ∙ space_read c.as_bytes-bytes.result.now c.args.place (shorter _ _ _ same c.requires.within) (sym c.is_in.ensures ∙ c.if-is_in.true)
    ∙ ap (λ (x : List ℕ). next_of (drop c.args.place x)) same

pub returns-then-is_in-2 : goal.returns-then-is_in-2
returns-then-is_in-2 c =
    let same = c.as_bytes-bytes.ensures.value in
    ap (λ (x : ℕ × Piece). Some x) c.number.ensures
    ∙ number_read c.as_bytes-bytes.result.now c.args.place (shorter _ _ _ same c.requires.within)
    (sym c.is_in.ensures ∙ c.if-is_in.false) (sym c.is_in-2.ensures ∙ c.if-is_in-2.true)
    ∙ ap (λ (x : List ℕ). next_of (drop c.args.place x)) same

pub literal-requires-clause-cut : goal.literal-requires-clause-cut
literal-requires-clause-cut c =
    opening_cut c.as_bytes-bytes.result.now c.args.text.now c.args.place
    (c.in-Some.before, c.in-Some.style) c.as_bytes-bytes.ensures.value c.requires.within c.in-Some.ensures c.utf8.text

pub returns-in-Some : goal.returns-in-Some
returns-in-Some c =
    let same = c.as_bytes-bytes.ensures.value in
    let read =
    text_read c.as_bytes-bytes.result.now c.args.place (shorter _ _ _ same c.requires.within) (c.in-Some.before, c.in-Some.style)
    (sym c.is_in.ensures ∙ c.if-is_in.false) (sym c.is_in-2.ensures ∙ c.if-is_in-2.false) (sym c.in-Some.ensures) in
    let text =
    ap
    (λ (x : List ℕ). Some (Rattle.cel_lex.specs.Scan.text_at c.in-Some.before c.in-Some.style (drop (c.args.place + c.in-Some.before) x)))
    (sym same) in
    ap (λ (x : ℕ × Piece). Some x) c.in_ok-literal.ensures ∙ text ∙ read
    ∙ ap (λ (x : List ℕ). next_of (drop c.args.place x)) same

pub returns-then-is_letter_at : goal.returns-then-is_letter_at
returns-then-is_letter_at c =
    let same = c.as_bytes-bytes.ensures.value in
    let n = c.run_len-length.result in
    let whole : c.args.place + (1 + n) - c.args.place ≡ 1 + n = omega arith in
    ap (λ (x : TokenKind). Some (1 + n, piece.Token x))
    (c.token_of-kind.ensures ∙ ap (λ (x : ℕ). word_of (take x (drop c.args.place c.as_bytes-bytes.result.now))) whole)
    ∙ word_read c.as_bytes-bytes.result.now c.args.place (shorter _ _ _ same c.requires.within) (sym c.is_in.ensures ∙ c.if-is_in.false)
    (sym c.is_in-2.ensures ∙ c.if-is_in-2.false) (sym c.in_default.ensures)
    (sym c.is_letter_at.ensures ∙ c.if-is_letter_at.true) n c.run_len-length.ensures.value
    ∙ ap (λ (x : List ℕ). next_of (drop c.args.place x)) same

pub returns : goal.returns
returns c =
    let same = c.as_bytes-bytes.ensures.value in
    c.symbol.ensures
    ∙ symbol_read c.as_bytes-bytes.result.now c.args.place (shorter _ _ _ same c.requires.within)
    (sym c.is_in.ensures ∙ c.if-is_in.false) (sym c.is_in-2.ensures ∙ c.if-is_in-2.false) (sym c.in_default.ensures)
    (sym c.is_letter_at.ensures ∙ c.if-is_letter_at.false)
    ∙ ap (λ (x : List ℕ). next_of (drop c.args.place x)) same
