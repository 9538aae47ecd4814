-- What `parse` reads, and what is printed.
use Rattle.std.proofs.Common.{◌≡◌, ◌≤◌, ◌<◌, ◌-◌, ◌^◌, ℕ, suc, true, List, [], ◌∷◌, length, get_or, drop, ap, sym, ◌∙◌, refl, inl, inr}
use Rattle.std.proofs.Common.{arith}
use Rattle.std.proofs.Common.{ℤ, pos, negsuc, Option, Some, None, Result, Ok, Err, OkIff, w64}
use Rattle.std.proofs.lemmas.Bool.{cases_Bool, cases_eq, cases_lt, le-leb, lt-leb, ne_eqb, and_parts, true≢false}
use Rattle.std.proofs.lemmas.Bool.Decides.{nat_tests}
use Rattle.std.proofs.lemmas.Fmt.{digits_decimal, digits_value-decimal, decimal_nonempty, length-decimal-le, length_signed_le}
use Rattle.std.proofs.lemmas.Str.Parse.{IsNumeralModel, numerals_by_value, tells_all_ascii_digits, parse_plain, parse_signed_plain}
use Rattle.std.proofs.lemmas.Str.Parse.{parse_signed_minus}
use lib.Signed.{mag}
use Rattle.std.specs.Char.{is_ascii_digit}
use Rattle.std.specs.Fmt.{decimal, signed_decimal}
use Rattle.std.specs.Option.{option_map}
use Rattle.std.specs.Result.{result_ok}
use Rattle.std.specs.Str.{all_ascii_digits}
use Rattle.std.specs.Str.Parse.{digits_value, ParsesUnsigned, ParsesSigned}
use Rattle.cel_value.specs.Value.{begins, code_points}
use Rattle.cel_value.specs.Reading.{below_zero}
use Rattle.cel_operators.specs.Numbers.{is_numeral, number_up_to, uint_of, int_of}

-- the digits and their number, in the words of these definitions
own : IsNumeralModel (λ ds. all_ascii_digits ds ≡ true) (digits_value 10)
own = numerals_by_value _ tells_all_ascii_digits

numeral : (ds : List ℕ) → all_ascii_digits ds ≡ true → 0 < length ds → is_numeral ds ≡ true
numeral [] h l = absurd (omega arith)
numeral (d ∷ ds) h l = h

digits_in : (ds : List ℕ) → is_numeral ds ≡ true → all_ascii_digits ds ≡ true
digits_in [] h = refl
digits_in (d ∷ ds) h = h

some_in : (ds : List ℕ) → is_numeral ds ≡ true → 0 < length ds
some_in [] h = absurd (true≢false (sym h))
some_in (d ∷ ds) h = omega arith

module _ (most : ℕ) (ds : List ℕ) where
  number_there : all_ascii_digits ds ≡ true → 0 < length ds → digits_value 10 ds ≤ most → number_up_to most ds ≡ Some (digits_value 10 ds)
  number_there h l k = rw (numeral ds h l, le-leb (digits_value 10 ds) most k) refl

  no_number : ((all_ascii_digits ds ≡ true) → 0 < length ds → digits_value 10 ds ≤ most → ⊥) → number_up_to most ds ≡ None
  no_number missing = elim (cases_Bool (is_numeral ds)) [
    | inr h ↦ rw h refl
    | inl h ↦ elim (cases_lt most (digits_value 10 ds)) [
      | inl k ↦ rw (h, lt-leb (digits_value 10 ds) most k) refl
      | inr k ↦ absurd (missing (digits_in ds h) (some_in ds h) k)
    ]
  ]

  -- an answer that is there exactly if the number is
  told : {T E : Type 0} (f : ℕ → T) (Q : Type 0) → (Q → digits_value 10 ds ≤ most) → (digits_value 10 ds ≤ most → Q) → (r : Result T E)
      → OkIff r ((all_ascii_digits ds ≡ true) × (0 < length ds) × Q) (f (digits_value 10 ds))
      → result_ok r ≡ option_map f (number_up_to most ds)
  told f Q to from (Ok x) h = ap Some h.1 ∙ ap (option_map f) (sym (number_there h.0.0 h.0.1 (to h.0.2)))
  told f Q to from (Err e) h = ap (option_map f) (sym (no_number (λ a l k. h (a, l, from k))))

same_option : {T : Type 0} (o : Option T) → option_map (λ x. x) o ≡ o
same_option None = refl
same_option (Some x) = refl

pub uint_read : {E : Type 0} (bs : List ℕ) (r : Result ℕ E) → ParsesUnsigned 64 10 bs r → (get_or bs 0 0 ≡ 43 → ⊥)
    → result_ok r ≡ uint_of bs
uint_read bs r h unsigned =
    told (2 ^ 64 - 1) bs (λ n. n) (digits_value 10 bs < 2 ^ 64) (λ l. omega arith) (λ l. omega arith) r
    (parse_plain own 64 bs r h unsigned) ∙ same_option (uint_of bs)

-- digits with no minus in front
int_of_digits : (bs : List ℕ) → (get_or bs 0 0 ≡ 45 → ⊥) → int_of bs ≡ option_map pos (number_up_to (2 ^ 63 - 1) bs)
int_of_digits [] bare = refl
int_of_digits (c ∷ ds) bare = rw (ne_eqb c 45 bare) refl

int_of_minus : (bs : List ℕ) → get_or bs 0 0 ≡ 45 → int_of bs ≡ option_map below_zero (number_up_to (2 ^ 63) (drop 1 bs))
int_of_minus [] e = absurd (omega arith)
int_of_minus (c ∷ ds) e = rw e refl

pub int_read : {E : Type 0} (bs : List ℕ) (r : Result ℤ E) → ParsesSigned w64 10 bs r → (get_or bs 0 0 ≡ 43 → ⊥) → result_ok r ≡ int_of bs
int_read bs r h unsigned = elim (cases_eq (get_or bs 0 0) 45) [
  | inl e ↦ told (2 ^ 63) (drop 1 bs) below_zero (digits_value 10 (drop 1 bs) ≤ 2 ^ 63) (λ l. l) (λ l. l) r
      (parse_signed_minus own w64 bs r h e) ∙ sym (int_of_minus bs e)
  | inr e ↦ told (2 ^ 63 - 1) bs pos (digits_value 10 bs < 2 ^ 63) (λ l. omega arith) (λ l. omega arith) r
      (parse_signed_plain own w64 bs r h unsigned e) ∙ sym (int_of_digits bs e)
]

-- a plus is no digit
no_plus : (most : ℕ) (ds : List ℕ) → get_or ds 0 0 ≡ 43 → number_up_to most ds ≡ None
no_plus most [] h = refl
no_plus most (c ∷ cs) h = rw h refl

pub uint_of_plus : (bs : List ℕ) → get_or bs 0 0 ≡ 43 → uint_of bs ≡ None
uint_of_plus bs h = no_plus (2 ^ 64 - 1) bs h

pub int_of_plus : (bs : List ℕ) → get_or bs 0 0 ≡ 43 → int_of bs ≡ None
int_of_plus bs h = int_of_digits bs (λ e. omega arith) ∙ ap (option_map pos) (no_plus (2 ^ 63 - 1) bs h)

-- what is printed reads back
number_printed : (most n : ℕ) → n < 2 ^ 64 → n ≤ most → number_up_to most (decimal n) ≡ Some n
number_printed most n h l =
    let v = digits_value-decimal own n h in
    number_there most (decimal n) (digits_decimal own n h) (decimal_nonempty n h) (omega arith) ∙ ap Some v

pub uint_printed : (n : ℕ) → n < 2 ^ 64 → uint_of (decimal n) ≡ Some n
uint_printed n h = number_printed (2 ^ 64 - 1) n h (omega arith)

first_digit : (ds : List ℕ) → all_ascii_digits ds ≡ true → get_or ds 0 0 ≡ 45 → ⊥
first_digit [] h e = absurd (omega arith)
first_digit (d ∷ ds) h e = let p = (and_parts (is_ascii_digit d) (all_ascii_digits ds) h).0 in absurd (grind (arith, nat_tests))

pub int_printed : (z : ℤ) → mag z < 2 ^ 63 → int_of (signed_decimal z) ≡ Some z
int_printed (pos n) h =
    int_of_digits (decimal n) (first_digit (decimal n) (digits_decimal own n (omega arith)))
    ∙ ap (option_map pos) (number_printed (2 ^ 63 - 1) n (omega arith) (omega arith))
int_printed (negsuc n) h = ap (option_map below_zero) (number_printed (2 ^ 63) (suc n) (omega arith) (omega arith))

-- a text has no more code points than bytes
pub code_points_le : (bs : List ℕ) → code_points bs ≤ length bs
code_points_le [] = omega arith
code_points_le (b ∷ bs) = elim (cases_Bool (begins b)) [
  | inl h ↦ rw h (omega (arith, code_points_le bs))
  | inr h ↦ rw h (omega (arith, code_points_le bs))
]

pub uint_short : (n : ℕ) → n < 2 ^ 64 → code_points (decimal n) ≤ 20
uint_short n h = omega (arith, code_points_le (decimal n), length-decimal-le 20 n (omega arith) (omega arith) h)

pub int_short : (z : ℤ) → mag z < 2 ^ 63 → code_points (signed_decimal z) ≤ 20
int_short z h = omega (arith, code_points_le (signed_decimal z), length_signed_le 19 z (omega arith) h)
