-- What is printed of a duration reads back.
use Rattle.std.proofs.Common.{◌≡◌, ℕ, zero, suc, ◌+◌, ◌*◌, ◌/◌, ◌%◌, ◌^◌, ◌<◌, ◌≤◌, nat_eq, true, false, Some, List, [], ◌∷◌, ◌++◌}
use Rattle.std.proofs.Common.{length, length-append, refl, sym, ap, ◌∙◌, subst, arith, inl, inr, ℤ, pos, negsuc, unsigned_abs}
use Rattle.std.proofs.Common.{int_lt, append_assoc}
use Rattle.std.proofs.lemmas.Bool.{cases_Bool, and_parts, le-leb, ne_eqb}
use Rattle.std.proofs.lemmas.Bool.Decides.{nat_tests}
use Rattle.std.proofs.lemmas.Fmt.{digits_decimal, digits_value-decimal, decimal_nonempty, length-decimal-le}
use Rattle.std.proofs.lemmas.Int.{ints}
use Rattle.std.proofs.lemmas.Slice.Eq.{bytes_eq-Decides}
use Rattle.std.proofs.lemmas.Str.Parse.{IsNumeralModel, numerals_by_value, tells_all_ascii_digits}
use Rattle.std.proofs.Math.Seq.{drop-append_seam, take-append_seam}
use Rattle.std.specs.Char.{is_ascii_digit}
use Rattle.std.specs.Fmt.{decimal}
use Rattle.std.specs.Prelude.{codes}
use Rattle.std.specs.Str.{all_ascii_digits, bytes_eq}
use Rattle.std.specs.Str.Parse.{digits_value}
use Rattle.cel_value.specs.Instants.{duration_in_range}
use Rattle.cel_value.specs.Printed.{fraction_text, duration_text, minus_of}
use Rattle.cel_value.specs.Reading.{digits_in, part_spelled, parts_spelled, length_spelled, below_zero, duration_of}
use Rattle.cel_value.proofs.Back.{run, fraction_back, fraction_short}
use Rattle.cel_value.proofs.Digits.{digit}
use Rattle.cel_value.proofs.Parts.{parts_some}

own : IsNumeralModel (λ ds. all_ascii_digits ds ≡ true) (digits_value 10)
own = numerals_by_value _ tells_all_ascii_digits

-- seconds, as they are printed, and the unit
abbrev pub seconds_text : ℕ → ℕ → List ℕ
seconds_text q r = decimal q ++ (fraction_text r ++ codes "s")

minus_above : (n : ℕ) → minus_of (pos n) ≡ []
minus_above n = let t : int_lt (pos n) (pos 0) ≡ false = grind (arith, ints, nat_tests) in rw t refl

minus_below : (n : ℕ) → minus_of (negsuc n) ≡ codes "-"
minus_below n = refl

text_parts : (z : ℤ) → duration_text z ≡ minus_of z ++ seconds_text (unsigned_abs z / 1_000_000_000) (unsigned_abs z % 1_000_000_000)
unfolding duration_text
text_parts z = parts (minus_of z) (decimal (unsigned_abs z / 1_000_000_000)) (fraction_text (unsigned_abs z % 1_000_000_000)) (codes "s")
  where
    parts : (a b c d : List ℕ) → a ++ b ++ c ++ d ≡ a ++ (b ++ (c ++ d))
    parts a b c d = append_assoc (a ++ b) c d ∙ append_assoc a b (c ++ d)

run_seconds : (ds : List ℕ) (r : ℕ) → all_ascii_digits ds ≡ true → digits_in (ds ++ (fraction_text r ++ codes "s")) ≡ length ds
run_seconds ds zero h = run ds 115 [] h refl
run_seconds ds (suc m) h = rw (ne_eqb (suc m) 0 (λ e. omega arith)) (run ds 46 _ h refl)

part_back : (q r : ℕ) → q < 2 ^ 64 → r < 1_000_000_000 → part_spelled (seconds_text q r) ≡ Some (q * 1_000_000_000 + r, [])
part_back q r h l =
    let ds = decimal q in
    let behind = fraction_text r ++ codes "s" in
    let digits = digits_decimal own q h in
    let some = decimal_nonempty q h in
    let cut : r * 1_000_000_000 / 1_000_000_000 ≡ r = omega arith in
    rw (
      run_seconds ds r digits,
      le-leb 1 (length ds) some,
      take-append_seam ds behind,
      drop-append_seam ds behind,
      fraction_back r 115 l refl refl,
      digits_value-decimal own q h,
    ) (ap (λ c. Some (q * 1_000_000_000 + c, [])) cut)

length_back : (q r : ℕ) → q < 2 ^ 64 → r < 1_000_000_000 → length_spelled (seconds_text q r) ≡ Some (q * 1_000_000_000 + r)
unfolding parts_spelled
length_back q r h l =
    let bs = seconds_text q r in
    let some = decimal_nonempty q h in
    let long : 2 ≤ length bs =
    omega (arith, length-append (decimal q) (fraction_text r ++ codes "s"), length-append (fraction_text r) (codes "s"), some) in
    let all = parts_some bs (q * 1_000_000_000 + r, []) (part_back q r h l) in
    let whole : q * 1_000_000_000 + r + 0 ≡ q * 1_000_000_000 + r = omega arith in
    rw (other bs long, le-leb 1 (length bs) (omega arith), all) (ap Some whole)
  where
    other : (bs : List ℕ) → 2 ≤ length bs → bytes_eq bs (codes "0") ≡ false
    other bs long = elim (cases_Bool (bytes_eq bs (codes "0"))) [
      | inl t ↦ absurd (let e : length bs ≡ 1 = ap length ((bytes_eq-Decides bs (codes "0")).0 t) in omega arith)
      | inr f ↦ f
    ]

in_range_above : (n : ℕ) → n < 2 ^ 63 → duration_in_range (pos n) ≡ Some (pos n)
in_range_above n h = grind (arith, ints, nat_tests)

in_range_below : (n : ℕ) → n ≤ 2 ^ 63 → duration_in_range (below_zero n) ≡ Some (below_zero n)
in_range_below n h = grind (arith, ints, nat_tests)

unsigned : (ds behind : List ℕ) (v : ℕ) → all_ascii_digits ds ≡ true → 1 ≤ length ds → length_spelled (ds ++ behind) ≡ Some v
    → v < 2 ^ 63 → duration_of (ds ++ behind) ≡ Some (pos v)
unsigned [] behind v h some e l = absurd (omega arith)
unsigned (d ∷ ds) behind v h some e l =
    let low = digit d (and_parts (is_ascii_digit d) (all_ascii_digits ds) h).0 in
    rw (ne_eqb d 45 (λ x. omega arith), ne_eqb d 43 (λ x. omega arith), e) (in_range_above v l)

pub duration_back : (z : ℤ) → unsigned_abs z ≤ 2 ^ 63 → (z ≡ pos (2 ^ 63) → ⊥) → duration_of (duration_text z) ≡ Some z
duration_back (pos n) h apart =
    let text : duration_text (pos n) ≡ seconds_text (n / 1_000_000_000) (n % 1_000_000_000) =
    text_parts (pos n) ∙ ap (λ m. m ++ seconds_text (n / 1_000_000_000) (n % 1_000_000_000)) (minus_above n) in
    let q = n / 1_000_000_000 in
    let r = n % 1_000_000_000 in
    let whole : q * 1_000_000_000 + r ≡ n = omega arith in
    let small : n < 2 ^ 63 = below n h apart in
    ap duration_of text
    ∙ unsigned (decimal q) (fraction_text r ++ codes "s") n (digits_decimal own q (omega arith)) (decimal_nonempty q (omega arith))
    (length_back q r (omega arith) (omega arith) ∙ ap Some whole) small
  where
    below : (n : ℕ) → n ≤ 2 ^ 63 → (pos n ≡ pos (2 ^ 63) → ⊥) → n < 2 ^ 63
    below n h apart = elim (cases_Bool (nat_eq n (2 ^ 63))) [
      | inl t ↦ absurd (apart (ap pos (grind (arith, nat_tests))))
      | inr f ↦ grind (arith, nat_tests)
    ]
duration_back (negsuc n) h apart =
    let text : duration_text (negsuc n) ≡ codes "-" ++ seconds_text (suc n / 1_000_000_000) (suc n % 1_000_000_000) =
    text_parts (negsuc n) ∙ ap (λ m. m ++ seconds_text (suc n / 1_000_000_000) (suc n % 1_000_000_000)) (minus_below n) in
    let q = suc n / 1_000_000_000 in
    let r = suc n % 1_000_000_000 in
    let whole : q * 1_000_000_000 + r ≡ suc n = omega arith in
    ap duration_of text ∙ rw (length_back q r (omega arith) (omega arith) ∙ ap Some whole) (in_range_below (suc n) (omega arith))

pub duration_short : (z : ℤ) → unsigned_abs z ≤ 2 ^ 63 → length (duration_text z) ≤ 22
duration_short z h =
    let q = unsigned_abs z / 1_000_000_000 in
    let r = unsigned_abs z % 1_000_000_000 in
    let behind = fraction_text r ++ codes "s" in
    subst (λ t. length t ≤ 22) (sym (text_parts z)) (omega (
      arith,
      length-append (minus_of z) (decimal q ++ behind),
      length-append (decimal q) behind,
      length-append (fraction_text r) (codes "s"),
      length-decimal-le 10 q (omega arith) (omega arith) (omega arith),
      fraction_short r (omega arith),
      minus_short z,
    ))
  where
    minus_short : (z : ℤ) → length (minus_of z) ≤ 1
    minus_short (pos n) = omega (arith, ap length (minus_above n))
    minus_short (negsuc n) = omega arith
