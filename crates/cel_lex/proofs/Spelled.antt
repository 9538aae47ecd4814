-- What a text means is what its parts spell.
use Rattle.std.proofs.Common.{◌≡◌, ℕ, zero, suc, ◌+◌, ◌≤◌, Bool, true, false, List, [], ◌∷◌, length, drop}
use Rattle.std.proofs.Common.{Option, Some, None, Result, Ok, Err, refl, sym, ap, subst, ◌∙◌, arith, length-drop}
use Rattle.std.specs.Char.{encode_utf8}
use Rattle.cel_lex.specs.Bytes.{is_backslash}
use Rattle.cel_lex.specs.Escapes.{escape_of, behind, meaning_of}
use Rattle.cel_lex.specs.Spelling.{Spells, nothing, byte, escape, FirstBad, bad_here, behind_byte, behind_escape}
use Rattle.cel_lex.proofs.Meaning.{after, passed, bad_escape, escape_by, plain_by}

-- an escape first, and what follows it
escape_is : (c : ℕ) (rest : List ℕ) (v n : ℕ) → is_backslash c ≡ true → escape_of rest ≡ Some (v, n)
    → meaning_of 0 (c ∷ rest) ≡ behind (encode_utf8 v) (after [] n (meaning_of 0 (drop n rest)))
escape_is c rest v n e is = escape_by c rest v n e is ∙ ap (behind (encode_utf8 v)) (passed n rest)

pub meaning_nil : meaning_of 0 [] ≡ Ok []
unfolding meaning_of
meaning_nil = refl

pub means_value : {body value : List ℕ} → Spells body value → meaning_of 0 body ≡ Ok value
means_value nothing = meaning_nil
means_value (byte {c} {rest} {value} e s) = plain_by c rest e ∙ ap (behind (c ∷ [])) (means_value s)
means_value (escape {c} {rest} v n value e is s) =
    escape_is c rest v n e is ∙ ap (λ (r : Result (List ℕ) ℕ). behind (encode_utf8 v) (after [] n r)) (means_value s)

further : (n k : ℕ) → suc (n + k) ≡ 1 + (n + k)
further n k = omega arith

pub means_bad : {body : List ℕ} {k : ℕ} → FirstBad body k → meaning_of 0 body ≡ Err k
means_bad (bad_here {c} {rest} e none) = bad_escape c rest e none
means_bad (behind_byte {c} {rest} k e b) =
    plain_by c rest e ∙ ap (behind (c ∷ [])) (means_bad b) ∙ ap (λ (x : ℕ). Err x) (let s : suc k ≡ 1 + k = omega arith in s)
means_bad (behind_escape {c} {rest} v n k e is b) =
    escape_is c rest v n e is
    ∙ ap (λ (r : Result (List ℕ) ℕ). behind (encode_utf8 v) (after [] n r)) (means_bad b)
    ∙ ap (λ (x : ℕ). Err x) (further n k)

-- what bytes are by their meaning
abbrev Tells : List ℕ → Result (List ℕ) ℕ → Type 0
Tells body (Ok value) = Spells body value
Tells body (Err k) = FirstBad body k

byte_tells : (c : ℕ) (rest : List ℕ) (r : Result (List ℕ) ℕ) → is_backslash c ≡ false → Tells rest r
    → Tells (c ∷ rest) (behind (c ∷ []) r)
byte_tells c rest (Ok value) e t = byte e t
byte_tells c rest (Err k) e t = subst (λ x. FirstBad (c ∷ rest) x) (let s : 1 + k ≡ suc k = omega arith in s) (behind_byte k e t)

escape_tells : (c : ℕ) (rest : List ℕ) (v n : ℕ) (r : Result (List ℕ) ℕ) → is_backslash c ≡ true
    → escape_of rest ≡ Some (v, n) → Tells (drop n rest) r → Tells (c ∷ rest) (behind (encode_utf8 v) (after [] n r))
escape_tells c rest v n (Ok value) e is t = escape v n value e is t
escape_tells c rest v n (Err k) e is t = subst (λ x. FirstBad (c ∷ rest) x) (sym (further n k)) (behind_escape v n k e is t)

-- by how many bytes there are at most
tells : (most : ℕ) (body : List ℕ) → length body ≤ most → Tells body (meaning_of 0 body)
tells most [] le = subst (λ r. Tells [] r) (sym meaning_nil) nothing
tells zero (c ∷ rest) le = absurd (omega arith)
tells (suc most) (c ∷ rest) le =
    first_tells c rest (is_backslash c) (escape_of rest) refl refl (tells most rest (omega arith))
    (λ n. tells most (drop n rest) (omega (arith, length-drop n rest)))
  where
    first_tells : (c : ℕ) (rest : List ℕ) (b : Bool) (o : Option (ℕ × ℕ)) → is_backslash c ≡ b → escape_of rest ≡ o
        → Tells rest (meaning_of 0 rest) → ((n : ℕ) → Tells (drop n rest) (meaning_of 0 (drop n rest)))
        → Tells (c ∷ rest) (meaning_of 0 (c ∷ rest))
    first_tells c rest false o e is t u =
        subst (λ r. Tells (c ∷ rest) r) (sym (plain_by c rest e)) (byte_tells c rest (meaning_of 0 rest) e t)
    first_tells c rest true None e is t u = subst (λ r. Tells (c ∷ rest) r) (sym (bad_escape c rest e is)) (bad_here e is)
    first_tells c rest true (Some x) e is t u =
        subst (λ r. Tells (c ∷ rest) r) (sym (escape_is c rest x.0 x.1 e is))
        (escape_tells c rest x.0 x.1 (meaning_of 0 (drop x.1 rest)) e is (u x.1))

pub spells_it : (body value : List ℕ) → meaning_of 0 body ≡ Ok value → Spells body value
spells_it body value e = subst (λ r. Tells body r) e (tells (length body) body (omega arith))

pub bad_in_it : (body : List ℕ) (k : ℕ) → meaning_of 0 body ≡ Err k → FirstBad body k
bad_in_it body k e = subst (λ r. Tells body r) e (tells (length body) body (omega arith))
