-- One turn of the loop over what a text means.
use Rattle.std.proofs.Common.{◌≡◌, ℕ, ◌+◌, ◌-◌, ◌<◌, ◌≤◌, Bool, true, false, List, ◌∷◌}
use Rattle.std.proofs.Common.{◌++◌, length, take, drop, get_or, Some, None, Result, Ok, Err, refl, sym}
use Rattle.std.proofs.Common.{ap, subst, ◌∙◌, inl, inr, arith, rules, eq-eqb, length-drop, append-nil}
use Rattle.std.specs.Prelude.{nat_eq, not}
use Rattle.std.specs.Char.{encode_utf8}
use Rattle.std.specs.List.{prefix_len}
use Rattle.std.specs.Str.{IsUtf8, IsCharBoundary}
use Rattle.std.proofs.lemmas.Bool.{cases_lt}
use Rattle.std.proofs.lemmas.List.{drop_more, drop_all, take_rest, drop-drop, get_or-drop}
use Rattle.std.proofs.lemmas.List.Sums.{prefix_len-le-length, prefix_len_stops}
use Rattle.std.proofs.lemmas.Str.{IsCharBoundary-after_ascii, IsCharBoundary-before_ascii, IsCharBoundary-end}
use Rattle.cel_lex.specs.Bytes.{is_backslash, is_plain}
use Rattle.cel_lex.specs.Escapes.{escape_of, meaning_of}
use Rattle.cel_lex.proofs.Meaning.{after, after_after, bad_escape, escape_first, run_first}
use Rattle.cel_lex.proofs.EscapeParts.{is_escape}
use Rattle.cel_lex.proofs.Spelled.{meaning_nil}

-- a backslash is no other byte
not_backslash : (c : ℕ) → (c ≡ 92 → ⊥) → is_backslash c ≡ false
not_backslash c h = search (rules)

is_backslash_at : (c : ℕ) → is_plain c ≡ false → c ≡ 92
is_backslash_at c e = by_test (nat_eq c 92) refl e
  where
    by_test : (b : Bool) → nat_eq c 92 ≡ b → not b ≡ false → c ≡ 92
    by_test true h k = search (rules)
    by_test false h k = absurd cc

module _ (bytes : List ℕ) (place : ℕ) (lt : place < length bytes) where
  abbrev rest : List ℕ
  rest = take (length bytes - (place + 1)) (drop (place + 1) bytes)

  from_here : drop place bytes ≡ get_or bytes place 0 ∷ rest
  from_here = drop_more bytes place 0 lt ∙ ap (λ (x : List ℕ). get_or bytes place 0 ∷ x) (sym (take_rest bytes (place + 1)))

  room : length rest + place + 1 ≡ length bytes
  room = omega (arith, ap length (take_rest bytes (place + 1)), length-drop (place + 1) bytes)

  further : (n : ℕ) → drop n (get_or bytes place 0 ∷ rest) ≡ drop (place + n) bytes
  further n = ap (drop n) (sym from_here) ∙ drop-drop n place bytes

  at_rest : (n : ℕ) → get_or rest n 0 ≡ get_or bytes (place + 1 + n) 0
  at_rest n = ap (λ (x : List ℕ). get_or x n 0) (take_rest bytes (place + 1)) ∙ get_or-drop (place + 1) bytes n 0

  module _ (n v : ℕ) (is : escape_of rest ≡ Some (v, n)) where
    pub escape_within : place + (1 + n) ≤ length bytes
    escape_within = let e = is_escape rest v n is in let a = e.within in let b = room in omega arith

    pub escape_cut : IsUtf8 bytes → IsCharBoundary bytes (place + (1 + n))
    escape_cut utf8 =
        let e = is_escape rest v n is in
        let some = e.some in
        let ascii = e.ascii (n - 1) (omega arith) in
        let at = at_rest (n - 1) in
        let last : place + 1 + (n - 1) ≡ place + n = omega arith in
        let byte : get_or bytes (place + n) 0 < 128 = omega (arith, ap (λ x. get_or bytes x 0) last) in
        let within = escape_within in
        subst (λ x. IsCharBoundary bytes x) (let same : place + n + 1 ≡ place + (1 + n) = omega arith in same)
        (IsCharBoundary-after_ascii bytes (place + n) utf8 (omega arith) byte)

  module _ (n : ℕ) (is : n ≡ prefix_len is_plain rest) where
    pub plain_within : place + (1 + n) ≤ length bytes
    plain_within = let a = prefix_len-le-length is_plain rest in let b = room in omega arith

    pub plain_cut : IsUtf8 bytes → IsCharBoundary bytes (place + (1 + n))
    plain_cut utf8 = elim (cases_lt (place + (1 + n)) (length bytes)) [
      | inl lt' ↦ let stops = prefix_len_stops is_plain rest 0 (let b = room in omega arith) in
          let byte = is_backslash_at (get_or rest (prefix_len is_plain rest) 0) stops in
          let at = at_rest (prefix_len is_plain rest) in
          let same : place + 1 + prefix_len is_plain rest ≡ place + (1 + n) = omega arith in
          IsCharBoundary-before_ascii bytes (place + (1 + n)) lt' (omega (arith, ap (λ x. get_or bytes x 0) same))
      | inr le ↦ let end : length bytes ≡ place + (1 + n) = let w = plain_within in omega arith in
          subst (λ x. IsCharBoundary bytes x) end (IsCharBoundary-end bytes)
    ]

  module _ (out : List ℕ) (total : Result (List ℕ) ℕ) (kept : after out place (meaning_of 0 (drop place bytes)) ≡ total) where
    pub bad_turn : get_or bytes place 0 ≡ 92 → None ≡ escape_of rest → Err place ≡ total
    bad_turn e none =
        ap (λ (x : ℕ). Err x) (omega arith)
        ∙ sym
        (ap (after out place)
        (ap (meaning_of 0) from_here ∙ bad_escape (get_or bytes place 0) rest (eq-eqb (get_or bytes place 0) 92 e) (sym none)))
        ∙ kept

    turned : (value : List ℕ) (n : ℕ)
        → meaning_of 0 (get_or bytes place 0 ∷ rest) ≡ after value n (meaning_of 0 (drop n (get_or bytes place 0 ∷ rest)))
        → after (out ++ value) (place + n) (meaning_of 0 (drop (place + n) bytes)) ≡ total
    turned value n means =
        sym (after_after out value place n (meaning_of 0 (drop (place + n) bytes)))
        ∙ ap (λ (x : List ℕ). after out place (after value n (meaning_of 0 x))) (sym (further n))
        ∙ ap (after out place) (sym means)
        ∙ ap (λ (x : List ℕ). after out place (meaning_of 0 x)) (sym from_here)
        ∙ kept

    pub escape_turn : (n v : ℕ) → get_or bytes place 0 ≡ 92 → escape_of rest ≡ Some (v, n)
        → after (out ++ encode_utf8 v) (place + (1 + n)) (meaning_of 0 (drop (place + (1 + n)) bytes)) ≡ total
    escape_turn n v e is =
        turned (encode_utf8 v) (1 + n) (escape_first (get_or bytes place 0) rest v n (eq-eqb (get_or bytes place 0) 92 e) is)

    pub plain_turn : (n : ℕ) → (get_or bytes place 0 ≡ 92 → ⊥) → n ≡ prefix_len is_plain rest
        → after (out ++ take (1 + n) (drop place bytes)) (place + (1 + n)) (meaning_of 0 (drop (place + (1 + n)) bytes)) ≡ total
    plain_turn n e is =
        ap (λ (x : List ℕ). after (out ++ take (1 + n) x) (place + (1 + n)) (meaning_of 0 (drop (place + (1 + n)) bytes))) from_here
        ∙ turned (take (1 + n) (get_or bytes place 0 ∷ rest)) (1 + n)
        (run_first (get_or bytes place 0) rest n (not_backslash (get_or bytes place 0) e) is)

-- the whole text has been read
pub all_read : (bytes out : List ℕ) (place : ℕ) (total : Result (List ℕ) ℕ) → length bytes ≤ place
    → after out place (meaning_of 0 (drop place bytes)) ≡ total → Ok out ≡ total
all_read bytes out place total le kept =
    sym
    (ap (λ (x : List ℕ). after out place (meaning_of 0 x)) (drop_all place bytes le) ∙ ap (after out place) meaning_nil ∙ ap
    (λ (x : List ℕ). Ok x) (append-nil out))
    ∙ kept
