-- What is printed of a fraction reads back.
use Rattle.std.proofs.Common.{◌≡◌, ℕ, zero, suc, ◌+◌, ◌-◌, ◌*◌, ◌/◌, ◌%◌, ◌^◌, ◌<◌, ◌≤◌, nat_eq, true, false, Some, List, [], ◌∷◌}
use Rattle.std.proofs.Common.{◌++◌, length, refl, sym, ap, ap₂, ◌∙◌, arith}
use Rattle.std.proofs.lemmas.Bool.{and_from, and_parts, le-leb, ne_eqb}
use Rattle.std.proofs.lemmas.Bool.Decides.{nat_tests}
use Rattle.std.proofs.lemmas.Nat.{pow-add}
use Rattle.std.proofs.Math.Nat.{div-add-mod}
use Rattle.std.proofs.Math.Seq.{drop-append_seam, take-append_seam}
use Rattle.std.specs.Char.{is_ascii_digit, digit_value}
use Rattle.std.specs.Str.{all_ascii_digits}
use Rattle.std.specs.Str.Parse.{digits_value_after, digits_value}
use Rattle.cel_value.specs.Printed.{fraction_digits, fraction_text}
use Rattle.cel_value.specs.Reading.{digits_in, billionths, fraction_spelled}
use Rattle.cel_value.proofs.Digits.{ten_pow_next}
use Rattle.cel_value.proofs.Fractions.{digits_next, one_digit}

spread : (d p v q : ℕ) → (d * p + v) * q ≡ d * (p * q) + v * q
spread d p v q = grind arith

tens : (n p : ℕ) → n * 10 * p ≡ n * (10 * p)
tens n p = grind arith

turned : (a b : ℕ) → a * b ≡ b * a
turned a b = grind arith

-- the digits after those of n, as a sum
pub value_after : (n : ℕ) (ds : List ℕ) → digits_value_after 10 n ds ≡ n * 10 ^ length ds + digits_value 10 ds
value_after n [] = omega arith
value_after n (c ∷ ds) =
    let p = 10 ^ length ds in
    let v = digit_value c in
    let first = value_after (n * 10 + v) ds in
    let alone = value_after (0 * 10 + v) ds in
    let more : 10 ^ length (c ∷ ds) ≡ 10 * p = ten_pow_next (length (c ∷ ds)) (length ds) (omega arith) in
    first ∙ omega (arith, spread n 10 v p, spread 0 10 v p, tens n p, ap (λ q. n * q) more, alone)

pub digit_there : (d : ℕ) → d < 10 → (is_ascii_digit (48 + d) ≡ true) × (digit_value (48 + d) ≡ d)
digit_there d h = grind (arith, nat_tests)

pub fraction_law : (k n : ℕ) → n < 10 ^ k
    → (all_ascii_digits (fraction_digits k n) ≡ true) × (length (fraction_digits k n) ≤ k)
    × (digits_value 10 (fraction_digits k n) * 10 ^ (k - length (fraction_digits k n)) ≡ n)
unfolding fraction_digits
fraction_law zero n h = (refl, omega arith, omega arith)
fraction_law (suc k) zero h = (refl, omega arith, omega arith)
fraction_law (suc k) (suc m) h =
    let n = suc m in
    let next = digits_next (suc k) k n refl (λ e. omega arith) in
    let d = n / 10 ^ k in
    let r = n % 10 ^ k in
    let one = one_digit n (suc k) k (10 ^ k) refl h refl in
    let rest = fraction_law k r one.2 in
    let ds = fraction_digits k r in
    let digit = digit_there d one.1 in
    let alone : 0 * 10 + d ≡ d = omega arith in
    let value : digits_value 10 ((48 + d) ∷ ds) ≡ d * 10 ^ length ds + digits_value 10 ds =
    ap (λ v. digits_value_after 10 (0 * 10 + v) ds) digit.1 ∙ value_after (0 * 10 + d) ds
    ∙ ap (λ x. x * 10 ^ length ds + digits_value 10 ds) alone in
    let short = rest.1 in
    let seam : length ds + (k - length ds) ≡ k = omega arith in
    let power : 10 ^ length ds * 10 ^ (k - length ds) ≡ 10 ^ k = sym (pow-add 10 (length ds) (k - length ds)) ∙ ap (λ e. 10 ^ e) seam in
    let places : suc k - length ((48 + d) ∷ ds) ≡ k - length ds = omega arith in
    let whole : digits_value 10 ((48 + d) ∷ ds) * 10 ^ (k - length ds) ≡ n =
    ap (λ v. v * 10 ^ (k - length ds)) value ∙ spread d (10 ^ length ds) (digits_value 10 ds) (10 ^ (k - length ds))
    ∙ ap₂ (λ x y. d * x + y) power rest.2 ∙ ap (λ x. x + n % 10 ^ k) (turned d (10 ^ k)) ∙ div-add-mod n (10 ^ k) in
    rw next (and_from _ _ digit.0 rest.0, omega arith, ap (λ e. digits_value 10 ((48 + d) ∷ ds) * 10 ^ e) places ∙ whole)

-- a run of digits ends at what is no digit
pub run : (ds : List ℕ) (c : ℕ) (rest : List ℕ) → all_ascii_digits ds ≡ true → is_ascii_digit c ≡ false
    → digits_in (ds ++ c ∷ rest) ≡ length ds
run [] c rest h e = rw e refl
run (d ∷ ds) c rest h e =
    let p = and_parts (is_ascii_digit d) (all_ascii_digits ds) h in
    rw p.0 (omega (arith, run ds c rest p.1 e))

pub billionths_back : (ds rest : List ℕ) → all_ascii_digits ds ≡ true → 1 ≤ length ds → length ds ≤ 9
    → billionths (length ds) (ds ++ rest) ≡ Some (digits_value 10 ds * 10 ^ (9 - length ds), rest)
billionths_back ds rest h low high =
    rw (le-leb 1 (length ds) low, le-leb (length ds) 9 high, take-append_seam ds rest, drop-append_seam ds rest, h) refl

pub fraction_back : (r c : ℕ) → r < 1_000_000_000 → is_ascii_digit c ≡ false → nat_eq c 46 ≡ false
    → fraction_spelled (fraction_text r ++ c ∷ []) ≡ Some (r, c ∷ [])
fraction_back zero c h d p = rw p refl
fraction_back (suc m) c h d p =
    let ds = fraction_digits 9 (suc m) in
    let law = fraction_law 9 (suc m) h in
    let some : 1 ≤ length ds = rw (digits_next 9 8 (suc m) refl (λ e. omega arith)) (omega arith) in
    let text : fraction_text (suc m) ≡ 46 ∷ ds = rw (ne_eqb (suc m) 0 (λ e. omega arith)) refl in
    ap (λ t. fraction_spelled (t ++ c ∷ [])) text ∙ ap (λ k. billionths k (ds ++ c ∷ [])) (run ds c [] law.0 d)
    ∙ billionths_back ds (c ∷ []) law.0 some law.1
    ∙ ap (λ v. Some (v, c ∷ [])) law.2

pub fraction_short : (r : ℕ) → r < 1_000_000_000 → length (fraction_text r) ≤ 10
fraction_short zero h = omega arith
fraction_short (suc m) h =
    let text : fraction_text (suc m) ≡ 46 ∷ fraction_digits 9 (suc m) = rw (ne_eqb (suc m) 0 (λ e. omega arith)) refl in
    rw text (omega (arith, (fraction_law 9 (suc m) h).1))
