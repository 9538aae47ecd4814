-- Which bytes an escape has.
use Rattle.std.proofs.Common.{◌≡◌, ℕ, zero, suc, ◌<◌, ◌≤◌, Bool, true, false, cond, List, [], ◌∷◌}
use Rattle.std.proofs.Common.{length, get_or, Option, Some, None, Result, Ok, Err, refl, ap, subst, arith, rules}
use Rattle.std.specs.Prelude.{◌&&◌, ◌||◌, nat_eq, nat_le}
use Rattle.std.specs.Char.{encode_utf8, is_digit as is_digit_of}
use Rattle.std.proofs.lemmas.Bool.Decides.{nat_tests}
use Rattle.std.proofs.lemmas.List.Sums.{prefix_len-le-length, prefix_len_passes}
use Rattle.cel_lex.specs.Bytes.{is_backslash}
use Rattle.cel_lex.specs.Numbers.{digits_in}
use Rattle.cel_lex.specs.Escapes.{coded, simple, spelled_by, escape_of, behind, escaped, meaning_of}

-- digits are ASCII
pub digit_ascii : (base c : ℕ) → base ≤ 36 → is_digit_of c base ≡ true → c < 128
digit_ascii base c small e = grind (arith, nat_tests)

simple_ascii : (c v : ℕ) → simple c ≡ Some v → c < 128
simple_ascii c v e = grind (arith, nat_tests)

-- the bytes of an escape: at least one, all within the text; the last is ASCII
pub record IsEscape (bytes : List ℕ) (n : ℕ) : Type 0 where
  pub some : 1 ≤ n
  pub within : n ≤ length bytes
  pub ascii : (k : ℕ) → n ≡ suc k → get_or bytes k 0 < 128

coded_by : (base count : ℕ) (bytes : List ℕ) (b : Bool) (o : Option ℕ) (v : ℕ) → nat_le count (digits_in base bytes) ≡ b
    → base ≤ 36 → 1 ≤ count → cond b o None ≡ Some v → IsEscape bytes count
coded_by base count bytes false o v e small some is = absurd cc
coded_by base count bytes true o v e small some is =
    let le : count ≤ digits_in base bytes = search (rules) in
    let all = prefix_len-le-length (λ c. is_digit_of c base) bytes in
    record {
      some = some;
      within = omega arith;
      ascii = λ k e. digit_ascii base (get_or bytes k 0) small (prefix_len_passes (λ c. is_digit_of c base) bytes k 0 (omega arith));
    }

coded_is : (base count : ℕ) (bytes : List ℕ) (v : ℕ) → base ≤ 36 → 1 ≤ count → coded base count bytes ≡ Some v
    → IsEscape bytes count
coded_is base count bytes v small some is = coded_by base count bytes (nat_le count (digits_in base bytes)) _ v refl small some is

at_letter : (c : ℕ) (rest : List ℕ) (n k : ℕ) → IsEscape rest n → suc n ≡ suc k → get_or (c ∷ rest) k 0 < 128
at_letter c rest n zero e is = absurd (let h = e.some in omega arith)
at_letter c rest n (suc k) e is = e.ascii k (omega arith)

behind_letter : (c : ℕ) (rest : List ℕ) (n : ℕ) → IsEscape rest n → IsEscape (c ∷ rest) (suc n)
behind_letter c rest n e = let w = e.within
    in record { some = omega arith; within = omega arith; ascii = λ k is. at_letter c rest n k e is }

-- a count that is answered beside a character
letter_by : (c base count : ℕ) (rest : List ℕ) (o : Option ℕ) (v n : ℕ) → coded base count rest ≡ o → base ≤ 36
    → 1 ≤ count → spelled_by (suc count) o ≡ Some (v, n) → IsEscape (c ∷ rest) n
letter_by c base count rest None v n e small some is = absurd cc
letter_by c base count rest (Some x) v n e small some is =
    let p : ◌≡◌ {A = ℕ × ℕ} (x, suc count) (v, n) = cc in
    let h : suc count ≡ n = ap (λ y. y.1) p in
    subst (λ j. IsEscape (c ∷ rest) j) h (behind_letter c rest count (coded_is base count rest x small some e))

octal_by : (bytes : List ℕ) (o : Option ℕ) (v n : ℕ) → coded 8 3 bytes ≡ o → spelled_by 3 o ≡ Some (v, n) → IsEscape bytes n
octal_by bytes None v n e is = absurd cc
octal_by bytes (Some x) v n e is =
    let p : ◌≡◌ {A = ℕ × ℕ} (x, 3) (v, n) = cc in
    let h : 3 ≡ n = ap (λ y. y.1) p in subst (λ j. IsEscape bytes j) h (coded_is 8 3 bytes x (omega arith) (omega arith) e)

one_ascii : (c : ℕ) (rest : List ℕ) (k : ℕ) → c < 128 → 1 ≡ suc k → get_or (c ∷ rest) k 0 < 128
one_ascii c rest zero lt is = lt
one_ascii c rest (suc k) lt is = absurd (omega arith)

simple_by : (c : ℕ) (rest : List ℕ) (o : Option ℕ) (v n : ℕ) → simple c ≡ o → spelled_by 1 o ≡ Some (v, n)
    → IsEscape (c ∷ rest) n
simple_by c rest None v n e is = absurd cc
simple_by c rest (Some x) v n e is =
    let p : ◌≡◌ {A = ℕ × ℕ} (x, 1) (v, n) = cc in
    let h : 1 ≡ n = ap (λ y. y.1) p in
    let lt = simple_ascii c x e in
    let one : IsEscape (c ∷ rest) 1 = record { some = omega arith; within = omega arith; ascii = λ k e'. one_ascii c rest k lt e' } in
    subst (λ j. IsEscape (c ∷ rest) j) h one

escape_cases : (x u l o : Bool) (c : ℕ) (rest : List ℕ) (v n : ℕ) → cond x (spelled_by 3 (coded 16 2 rest))
    (cond u (spelled_by 5 (coded 16 4 rest))
    (cond l (spelled_by 9 (coded 16 8 rest)) (cond o (spelled_by 3 (coded 8 3 (c ∷ rest))) (spelled_by 1 (simple c)))))
    ≡ Some (v, n) → IsEscape (c ∷ rest) n
escape_cases true u l o c rest v n is = letter_by c 16 2 rest (coded 16 2 rest) v n refl (omega arith) (omega arith) is
escape_cases false true l o c rest v n is = letter_by c 16 4 rest (coded 16 4 rest) v n refl (omega arith) (omega arith) is
escape_cases false false true o c rest v n is = letter_by c 16 8 rest (coded 16 8 rest) v n refl (omega arith) (omega arith) is
escape_cases false false false true c rest v n is = octal_by (c ∷ rest) (coded 8 3 (c ∷ rest)) v n refl is
escape_cases false false false false c rest v n is = simple_by c rest (simple c) v n refl is

pub is_escape : (bytes : List ℕ) (v n : ℕ) → escape_of bytes ≡ Some (v, n) → IsEscape bytes n
is_escape [] v n is = absurd cc
is_escape (c ∷ rest) v n is =
    escape_cases (nat_eq c 120 || nat_eq c 88) (nat_eq c 117) (nat_eq c 85) (nat_le 48 c && nat_le c 51) c rest v n is

-- a bad escape is within the text
behind_by : (value : List ℕ) (r : Result (List ℕ) ℕ) (k len : ℕ) → ((j : ℕ) → r ≡ Err j → j < len)
    → behind value r ≡ Err k → k < suc len
behind_by value (Ok v) k len h e = absurd cc
behind_by value (Err j) k len h e = let is : suc j ≡ k = cc in let lt = h j refl in omega arith

place_by : (b : Bool) (c : ℕ) (rest : List ℕ) (o : Option (ℕ × ℕ)) (k : ℕ)
    → ((n j : ℕ) → meaning_of n rest ≡ Err j → j < length rest)
    → cond b (escaped o (λ n. meaning_of n rest)) (behind (c ∷ []) (meaning_of 0 rest)) ≡ Err k → k < suc (length rest)
place_by true c rest None k h e = let is : 0 ≡ k = cc in omega arith
place_by true c rest (Some x) k h e = behind_by (encode_utf8 x.0) (meaning_of x.1 rest) k (length rest) (h x.1) e
place_by false c rest o k h e = behind_by (c ∷ []) (meaning_of 0 rest) k (length rest) (h 0) e

pub bad_within : (n : ℕ) (bytes : List ℕ) (k : ℕ) → meaning_of n bytes ≡ Err k → k < length bytes
unfolding meaning_of
bad_within n [] k e = absurd (nothing n e)
  where
    nothing : (n : ℕ) → meaning_of n [] ≡ Err k → ⊥
    nothing zero e = cc
    nothing (suc n) e = cc
bad_within (suc n) (c ∷ rest) k e = behind_by [] (meaning_of n rest) k (length rest) (bad_within n rest) e
bad_within zero (c ∷ rest) k e = place_by (is_backslash c) c rest (escape_of rest) k (λ m. bad_within m rest) e
