-- Digits of fractions, one after the other.
use Rattle.std.proofs.Common.{◌≡◌, ℕ, zero, suc, ◌+◌, ◌/◌, ◌%◌, ◌^◌, ◌<◌, List, [], ◌∷◌, ◌++◌, refl, sym, ap, ◌∙◌, arith}
use Rattle.std.proofs.Common.{append_assoc, append-nil}
use Rattle.std.proofs.lemmas.Bool.{ne_eqb}
use Rattle.std.proofs.Math.Nat.{div-lt_iff_lt-mul, mod-lt}
use Rattle.cel_value.specs.Printed.{fraction_digits, fraction_text}
use Rattle.cel_value.proofs.Digits.{ten_pow_positive, ten_pow_next}

pub digits_none : (k : ℕ) → fraction_digits k 0 ≡ []
unfolding fraction_digits
digits_none zero = refl
digits_none (suc k) = refl

pub digits_next : (k j n : ℕ) → k ≡ suc j → (n ≡ 0 → ⊥) → fraction_digits k n ≡ (48 + n / 10 ^ j) ∷ fraction_digits j (n % 10 ^ j)
unfolding fraction_digits
digits_next k j n e h = rw (e, ne_eqb n 0 h) refl

pub tenth : (place k j : ℕ) → k ≡ suc j → place ≡ 10 ^ k → place / 10 ≡ 10 ^ j
tenth place k j e h = omega (arith, ten_pow_next k j e)

pub one_digit : (n k j p : ℕ) → k ≡ suc j → n < 10 ^ k → p ≡ 10 ^ j → (0 < p) × (n / p < 10) × (n % p < p)
one_digit n k j p e h place =
    let ten = ten_pow_next k j e in
    let positive : 0 < p = omega (arith, ten_pow_positive j) in (
      positive,
      (div-lt_iff_lt-mul {k = p} {x = n} {y = 10} positive).1 (omega arith),
      mod-lt n {m = p} positive,
    )

pub put_step : (front now later : List ℕ) (k j n : ℕ) → k ≡ suc j → (n ≡ 0 → ⊥) → later ≡ now ++ (48 + n / 10 ^ j) ∷ []
    → now ++ fraction_digits k n ≡ front
    → later ++ fraction_digits j (n % 10 ^ j) ≡ front
put_step front now later k j n e h l whole =
    let next = ap (λ ds. now ++ ds) (sym (digits_next k j n e h)) in
    rw l (append_assoc now ((48 + n / 10 ^ j) ∷ []) (fraction_digits j (n % 10 ^ j)) ∙ next ∙ whole)

pub put_end : (now : List ℕ) (k n : ℕ) → n ≡ 0 → now ++ fraction_digits k n ≡ now
put_end now k n e = rw (e, digits_none k) (append-nil now)

-- the point, and the digits after it
pub text_of_digits : (old pointed : List ℕ) (n : ℕ) → pointed ≡ old ++ 46 ∷ [] → (n ≡ 0 → ⊥)
    → pointed ++ fraction_digits 9 n ≡ old ++ fraction_text n
text_of_digits old pointed n e h = rw (e, ne_eqb n 0 h) (append_assoc old (46 ∷ []) (fraction_digits 9 n))

pub nothing_left : (place n k : ℕ) → k ≡ 0 → place ≡ 10 ^ k → n < place → n ≡ 0
nothing_left place n k e h l = let one : 10 ^ k ≡ 1 = ap (λ x. 10 ^ x) e in omega arith
