-- Where a text may be cut: at its opening, at its closing quotes and after a word.
use Rattle.std.proofs.Common.{◌≡◌, ℕ, ◌+◌, ◌-◌, ◌<◌, ◌≤◌, Bool, true, false, cond, List, ◌∷◌}
use Rattle.std.proofs.Common.{length, take, drop, get_or, Some, sym, ap, subst, ◌∙◌, arith, length-drop}
use Rattle.std.specs.Str.{IsUtf8, IsCharBoundary}
use Rattle.std.proofs.lemmas.List.{drop_more, take_rest, get_or-drop}
use Rattle.std.proofs.lemmas.Str.{IsCharBoundary-after_ascii, IsCharBoundary-before_ascii}
use Rattle.cel_lex.specs.declared.literal.Style.{Style}
use Rattle.cel_lex.specs.Texts.{quotes, opening, closed_at}
use Rattle.cel_lex.proofs.TextNext.{closed_within}
use Rattle.cel_lex.proofs.Closings.{closing_quote}
use Rattle.cel_lex.proofs.Openings.{is_opening}

some_quote : (s : Style) → 1 ≤ quotes s
some_quote s = by_test s.is_triple
  where
    by_test : (b : Bool) → 1 ≤ cond b 3 1
    by_test true = omega arith
    by_test false = omega arith

module _ (s : Style) (bytes text : List ℕ) (place count : ℕ) (same : bytes ≡ text)
    (is : Some count ≡ closed_at s false (take (length bytes - place) (drop place bytes))) where
  is_here : closed_at s false (drop place text) ≡ Some count
  is_here = ap (λ (x : List ℕ). closed_at s false x) (sym (take_rest bytes place ∙ ap (drop place) same)) ∙ sym is

  pub closing_within : place + count < length text
  closing_within =
      let w = closed_within s false (drop place text) count is_here in
      let some = some_quote s in
      omega (arith, length-drop place text)

  pub closing_cut : s.quote < 128 → IsCharBoundary text (place + count)
  closing_cut ascii =
      let quote = closing_quote s false (drop place text) count is_here in
      IsCharBoundary-before_ascii text (place + count) closing_within (omega (arith, get_or-drop place text count 0))

module _ (bytes text : List ℕ) (place : ℕ) (o : ℕ × Style) (same : bytes ≡ text) (lt : place < length text)
    (is : Some o ≡ opening (take (length bytes - place) (drop place bytes))) where
  pub opening_here : opening (drop place text) ≡ Some o
  opening_here = ap (λ (x : List ℕ). opening x) (sym (take_rest bytes place ∙ ap (drop place) same)) ∙ sym is

  first : drop place text ≡ get_or text place 0 ∷ drop (place + 1) text
  first = drop_more text place 0 lt

  pub opening_cut : IsUtf8 text → IsCharBoundary text (place + o.0)
  opening_cut utf8 =
      let x = is_opening (get_or text place 0) (drop (place + 1) text) o (ap (λ (y : List ℕ). opening y) (sym first) ∙ opening_here) in
      let some = x.some in
      let within = x.within in
      let last = x.last in
      let byte : get_or text (place + (o.0 - 1)) 0 < 128 =
      omega (arith, get_or-drop place text (o.0 - 1) 0, ap (λ (y : List ℕ). get_or y (o.0 - 1) 0) first) in
      let len = length-drop (place + 1) text in
      subst (λ y. IsCharBoundary text y) (let e : place + (o.0 - 1) + 1 ≡ place + o.0 = omega arith in e)
      (IsCharBoundary-after_ascii text (place + (o.0 - 1)) utf8 (omega arith) byte)
