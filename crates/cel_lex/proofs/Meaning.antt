-- What a text means, part by part.
use Rattle.std.proofs.Common.{◌≡◌, ℕ, zero, suc, ◌+◌, Bool, true, false, cond, List, [], ◌∷◌, ◌++◌, take}
use Rattle.std.proofs.Common.{drop, Option, Some, None, Result, Ok, Err, refl, sym, ap, ◌∙◌, arith, append_assoc, append-nil}
use Rattle.std.specs.Prelude.{not, ◌&&◌}
use Rattle.std.specs.Char.{encode_utf8}
use Rattle.std.specs.List.{list_all, prefix_len}
use Rattle.std.proofs.Math.Numerals.{one-add}
use Rattle.cel_lex.specs.Bytes.{is_backslash, is_plain}
use Rattle.cel_lex.specs.Escapes.{escape_of, behind, escaped, meaning_of}
use Rattle.cel_lex.proofs.Runs.{front_passes}

-- what a text means if its front means this and has so many bytes
abbrev pub after : List ℕ → ℕ → Result (List ℕ) ℕ → Result (List ℕ) ℕ
after value place (Ok rest) = Ok (value ++ rest)
after value place (Err n) = Err (place + n)

pub after_nothing : (r : Result (List ℕ) ℕ) → after [] 0 r ≡ r
after_nothing (Ok v) = refl
after_nothing (Err n) = ap (λ (x : ℕ). Err x) (omega arith)

behind_after : (v w : List ℕ) (n : ℕ) (r : Result (List ℕ) ℕ) → behind v (after w n r) ≡ after (v ++ w) (suc n) r
behind_after v w n (Ok x) = ap (λ (l : List ℕ). Ok l) (sym (append_assoc v w x))
behind_after v w n (Err k) = ap (λ (x : ℕ). Err x) (omega arith)

pub after_after : (v w : List ℕ) (p q : ℕ) (r : Result (List ℕ) ℕ) → after v p (after w q r) ≡ after (v ++ w) (p + q) r
after_after v w p q (Ok x) = ap (λ (l : List ℕ). Ok l) (sym (append_assoc v w x))
after_after v w p q (Err k) = ap (λ (x : ℕ). Err x) (omega arith)

-- the bytes of an escape mean nothing of their own
pub passed : (n : ℕ) (rest : List ℕ) → meaning_of n rest ≡ after [] n (meaning_of 0 (drop n rest))
unfolding meaning_of
passed zero rest = sym (after_nothing (meaning_of 0 rest))
passed (suc n) [] = refl
passed (suc n) (c ∷ rest) = ap (behind []) (passed n rest) ∙ behind_after [] [] n (meaning_of 0 (drop n rest))

pub escape_by : (c : ℕ) (rest : List ℕ) (v n : ℕ) → is_backslash c ≡ true → escape_of rest ≡ Some (v, n)
    → meaning_of 0 (c ∷ rest) ≡ behind (encode_utf8 v) (meaning_of n rest)
unfolding meaning_of
escape_by c rest v n e is =
    ap (λ b. cond b (escaped (escape_of rest) (λ k. meaning_of k rest)) (behind (c ∷ []) (meaning_of 0 rest))) e
    ∙ ap (λ (o : Option (ℕ × ℕ)). escaped o (λ k. meaning_of k rest)) is

pub bad_escape : (c : ℕ) (rest : List ℕ) → is_backslash c ≡ true → escape_of rest ≡ None → meaning_of 0 (c ∷ rest) ≡ Err 0
unfolding meaning_of
bad_escape c rest e is =
    ap (λ b. cond b (escaped (escape_of rest) (λ k. meaning_of k rest)) (behind (c ∷ []) (meaning_of 0 rest))) e
    ∙ ap (λ (o : Option (ℕ × ℕ)). escaped o (λ k. meaning_of k rest)) is

append_nil : (v : List ℕ) → v ++ [] ≡ v
append_nil v = append-nil v

-- an escape first
pub escape_first : (c : ℕ) (rest : List ℕ) (v n : ℕ) → is_backslash c ≡ true → escape_of rest ≡ Some (v, n)
    → meaning_of 0 (c ∷ rest) ≡ after (encode_utf8 v) (1 + n) (meaning_of 0 (drop (1 + n) (c ∷ rest)))
escape_first c rest v n e is =
    escape_by c rest v n e is
    ∙ ap (behind (encode_utf8 v)) (passed n rest)
    ∙ behind_after (encode_utf8 v) [] n (meaning_of 0 (drop n rest))
    ∙ ap (λ (x : List ℕ). after x (suc n) (meaning_of 0 (drop n rest))) (append_nil (encode_utf8 v))
    ∙ ap (λ (x : ℕ). after (encode_utf8 v) x (meaning_of 0 (drop x (c ∷ rest)))) (sym (one-add n))

pub plain_by : (c : ℕ) (rest : List ℕ) → is_backslash c ≡ false
    → meaning_of 0 (c ∷ rest) ≡ behind (c ∷ []) (meaning_of 0 rest)
unfolding meaning_of
plain_by c rest e = ap (λ b. cond b (escaped (escape_of rest) (λ k. meaning_of k rest)) (behind (c ∷ []) (meaning_of 0 rest))) e

plain_from : (b : Bool) → not b ≡ true → b ≡ false
plain_from true e = absurd cc
plain_from false e = refl

first_passes : (b c : Bool) → (b && c) ≡ true → (b ≡ true) × (c ≡ true)
first_passes true true e = (refl, refl)
first_passes true false e = absurd cc
first_passes false c e = absurd cc

-- bytes that begin no escape first
plain_first : (n : ℕ) (bytes : List ℕ) → list_all is_plain (take n bytes) ≡ true
    → meaning_of 0 bytes ≡ after (take n bytes) n (meaning_of 0 (drop n bytes))
unfolding meaning_of
plain_first zero bytes e = sym (after_nothing (meaning_of 0 bytes))
plain_first (suc n) [] e = refl
plain_first (suc n) (c ∷ rest) e =
    let h = first_passes (is_plain c) (list_all is_plain (take n rest)) e in
    plain_by c rest (plain_from (is_backslash c) h.0)
    ∙ ap (behind (c ∷ [])) (plain_first n rest h.1)
    ∙ behind_after (c ∷ []) (take n rest) n (meaning_of 0 (drop n rest))

run_by : (c : ℕ) (rest : List ℕ) (n : ℕ) → is_backslash c ≡ false → n ≡ prefix_len is_plain rest
    → list_all is_plain (take (1 + n) (c ∷ rest)) ≡ true
run_by c rest n e k = rw one-add (rw e (ap (λ x. list_all is_plain (take x rest)) k ∙ front_passes is_plain rest))

pub run_first : (c : ℕ) (rest : List ℕ) (n : ℕ) → is_backslash c ≡ false → n ≡ prefix_len is_plain rest
    → meaning_of 0 (c ∷ rest) ≡ after (take (1 + n) (c ∷ rest)) (1 + n) (meaning_of 0 (drop (1 + n) (c ∷ rest)))
run_first c rest n e k = plain_first (1 + n) (c ∷ rest) (run_by c rest n e k)
