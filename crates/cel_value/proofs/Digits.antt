-- Numbers read one digit at a time.
use Rattle.std.proofs.Common.{◌≡◌, ℕ, zero, suc, ◌+◌, ◌-◌, ◌*◌, ◌^◌, ◌<◌, ◌≤◌, nat_lt, true, false, None, Some, Option, List, []}
use Rattle.std.proofs.Common.{◌∷◌, length, get_or, take, drop, if◌then◌else◌, refl, sym, ap, ◌∙◌, subst, arith, inl, inr}
use Rattle.std.proofs.lemmas.Bool.{cases_Bool, and_parts}
use Rattle.std.proofs.lemmas.Bool.Decides.{nat_tests}
use Rattle.std.proofs.lemmas.List.{at_drop_more, at_drop_all}
use Rattle.std.proofs.Math.Nat.{pow-suc}
use Rattle.std.specs.Char.{is_ascii_digit, digit_value}
use Rattle.std.specs.List.{prefix_len}
use Rattle.std.specs.Str.{all_ascii_digits}
use Rattle.std.specs.Str.Parse.{digits_value_after}
use Rattle.cel_value.specs.Views.{capped}

-- the number of digits after those of n
abbrev pub number_from : ℕ → List ℕ → Option ℕ
number_from n ds = if all_ascii_digits ds then Some (digits_value_after 10 n ds) else None

pub digit : (c : ℕ) → is_ascii_digit c ≡ true → (48 ≤ c) × (c ≤ 57) × (digit_value c ≡ c - 48)
digit c h = grind (arith, nat_tests)

pub number_from-next : (n c : ℕ) (ds : List ℕ) → is_ascii_digit c ≡ true → number_from n (c ∷ ds) ≡ number_from (n * 10 + (c - 48)) ds
number_from-next n c ds h = rw h (ap (λ v. number_from (n * 10 + v) ds) (digit c h).2)

pub number_from-other : (n c : ℕ) (ds : List ℕ) → is_ascii_digit c ≡ false → number_from n (c ∷ ds) ≡ None
number_from-other n c ds h = rw h refl

module _ (ds : List ℕ) (i n : ℕ) (within : i < length ds) where
  pub number_from-step : is_ascii_digit (get_or ds i 0) ≡ true
      → number_from (n * 10 + (get_or ds i 0 - 48)) (drop (i + 1) ds) ≡ number_from n (drop i ds)
  number_from-step h = sym (at_drop_more (number_from n) ds i 0 within ∙ number_from-next n (get_or ds i 0) (drop (i + 1) ds) h)

  pub number_from-none : is_ascii_digit (get_or ds i 0) ≡ false → number_from n (drop i ds) ≡ None
  number_from-none h = at_drop_more (number_from n) ds i 0 within ∙ number_from-other n (get_or ds i 0) (drop (i + 1) ds) h

pub number_from-end : (ds : List ℕ) (i n : ℕ) → length ds ≤ i → number_from n (drop i ds) ≡ Some n
number_from-end ds i n past = at_drop_all (number_from n) ds i past

-- the value of digits after those of n
pub value_from-next : (n c : ℕ) (ds : List ℕ) → is_ascii_digit c ≡ true
    → digits_value_after 10 n (c ∷ ds) ≡ digits_value_after 10 (n * 10 + (c - 48)) ds
value_from-next n c ds h = ap (λ v. digits_value_after 10 (n * 10 + v) ds) (digit c h).2

pub digit_at : (ds : List ℕ) (i : ℕ) → all_ascii_digits ds ≡ true → i < length ds → is_ascii_digit (get_or ds i 0) ≡ true
digit_at [] i h l = absurd (omega arith)
digit_at (d ∷ ds) zero h l = (and_parts (is_ascii_digit d) (all_ascii_digits ds) h).0
digit_at (d ∷ ds) (suc i) h l = digit_at ds i (and_parts (is_ascii_digit d) (all_ascii_digits ds) h).1 (omega arith)

pub value_from-step : (ds : List ℕ) (i n : ℕ) → all_ascii_digits ds ≡ true → i < length ds
    → digits_value_after 10 (n * 10 + (get_or ds i 0 - 48)) (drop (i + 1) ds) ≡ digits_value_after 10 n (drop i ds)
value_from-step ds i n h within =
    let next = value_from-next n (get_or ds i 0) (drop (i + 1) ds) (digit_at ds i h within) in
    sym (at_drop_more (digits_value_after 10 n) ds i 0 within ∙ next)

pub value_from-end : (ds : List ℕ) (i n : ℕ) → length ds ≤ i → digits_value_after 10 n (drop i ds) ≡ n
value_from-end ds i n past = at_drop_all (digits_value_after 10 n) ds i past

pub ten_more : (k n d : ℕ) → n < 10 ^ k → d ≤ 9 → n * 10 + d < 10 ^ (k + 1)
ten_more k n d h l =
    let next : k + 1 ≡ suc k = omega arith in
    rw next (omega (arith, pow-suc 10 k))

pub ten_pow_positive : (k : ℕ) → 1 ≤ 10 ^ k
ten_pow_positive zero = omega arith
ten_pow_positive (suc k) = omega (arith, pow-suc 10 k, ten_pow_positive k)

pub ten_pow_most : (k m : ℕ) → k ≤ m → 10 ^ k ≤ 10 ^ m
ten_pow_most k zero h = let e : k ≡ 0 = omega arith in rw e (omega arith)
ten_pow_most k (suc m) h = elim (cases_Bool (nat_lt m k)) [
  | inl t ↦ let e : k ≡ suc m = grind (arith, nat_tests) in subst (λ x. 10 ^ k ≤ 10 ^ x) e (omega arith)
  | inr t ↦ omega (arith, pow-suc 10 m, ten_pow_most k m (grind (arith, nat_tests)), ten_pow_positive m)
]

-- the digits that come first are digits
pub first_digits : (bs : List ℕ) → all_ascii_digits (take (prefix_len is_ascii_digit bs) bs) ≡ true
first_digits [] = refl
first_digits (b ∷ bs) = elim (cases_Bool (is_ascii_digit b)) [
  | inl t ↦
      let more : 1 + prefix_len is_ascii_digit bs ≡ suc (prefix_len is_ascii_digit bs) = omega arith in
      rw (t, more) (rw t (first_digits bs))
  | inr f ↦ rw f refl
]

pub ten_pow_next : (k j : ℕ) → k ≡ suc j → 10 ^ k ≡ 10 * 10 ^ j
ten_pow_next k j e = rw e (omega (arith, pow-suc 10 j))

pub ten_times : (n v k j : ℕ) → k ≡ suc j → v ≡ n * 10 ^ j → v * 10 ≡ n * 10 ^ k
ten_times n v k j e h = rw (h, ten_pow_next k j e) (product n (10 ^ j))
  where
    product : (a b : ℕ) → a * b * 10 ≡ a * (10 * b)
    product a b = grind arith

-- the value of a number under a cap, one digit on
pub capped_digit : (n c m d : ℕ) → c ≡ capped n → m ≡ n * 10 + d → capped (capped (c * 10) + d) ≡ capped m
capped_digit n c m d h e = rw (h, e) (omega arith)
