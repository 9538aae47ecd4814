use Rattle.std.proofs.Common.{◌≡◌, ◌<◌, ◌^◌, ℕ, List, [], length, slice_index, false, Some, IfSome}
use Rattle.std.proofs.Common.{Result, Ok, Err, refl, sym, ap, ◌∙◌, subst, arith, lt-ltb, ne_eqb}
use Rattle.std.proofs.lemmas.List.{append-nil}
use Rattle.std.specs.Char.{IsAsciiDigit}
use Rattle.std.specs.Result.{result_ok}
use Rattle.std.specs.Str.Parse.{digits_value, without_leading_plus, AllDigits, IsNumeral, ParsesUnsigned}
use Rattle.fast_float.specs.Text.{scan, text_of, Parts, IsWellFormed}
use Rattle.fast_float.proofs.Writing.{scan-text_of}
use Rattle.serde_json.specs.Data.{unsigned}
use Rattle.serde_json.specs.Read.{number_from}
use Rattle.base_containers.proofs.number.of_digits.Goals as goal

-- the parts of a numeral of which there are only digits before the point
abbrev of_whole : List ℕ → Parts
of_whole ds = record { whole = ds; point = false; fraction = []; exponent_negative = false; exponent = []; len = length ds }

scanned : (ds : List ℕ) → AllDigits 10 ds → scan ds ≡ of_whole ds
scanned ds digits =
    let text : text_of (of_whole ds) ≡ ds = append-nil ds in
    let formed : IsWellFormed (of_whole ds) = record {
      whole_digits = digits;
      fraction_digits = tt;
      exponent_digits = tt;
      no_point = λ _. refl;
      no_exponent = λ _. refl;
      len_is = ap length (sym text);
    } in
    ap scan (sym text) ∙ scan-text_of (of_whole ds) formed

number : (ds : List ℕ) → IsNumeral 10 ds → digits_value 10 ds < 2 ^ 64 → number_from false (scan ds) ≡ Some (unsigned (digits_value 10 ds))
number ds numeral within =
    rw (scanned ds numeral.1, lt-ltb 0 (length ds) numeral.0, append-nil ds, lt-ltb (digits_value 10 ds) (2 ^ 64) within)

without_plus : (bs : List ℕ) → IsAsciiDigit (slice_index bs 0) → without_leading_plus bs ≡ bs
without_plus bs digit = rw (ne_eqb (slice_index bs 0) 43 (λ e. omega (arith, digit, e)))

parsed : {E : Type 0} (bs : List ℕ) (r : Result ℕ E) → IsAsciiDigit (slice_index bs 0) → ParsesUnsigned 64 10 bs r
    → IfSome (result_ok r) (λ n. number_from false (scan bs) ≡ Some (unsigned n))
parsed bs (Ok n) digit h =
    let parses : (IsNumeral 10 bs × (digits_value 10 bs < 2 ^ 64)) × (n ≡ digits_value 10 bs) =
    subst (λ ds. (IsNumeral 10 ds × (digits_value 10 ds < 2 ^ 64)) × (n ≡ digits_value 10 ds)) (without_plus bs digit) h in
    number bs parses.0.0 parses.0.1 ∙ ap (λ m. Some (unsigned m)) (sym parses.1)
parsed bs (Err e) digit h = tt

pub returns-then-begins_with_digit : goal.returns-then-begins_with_digit
returns-then-begins_with_digit c =
    let digit = c.begins_with_digit.ensures c.if-begins_with_digit.true in
    subst (λ r. IfSome r (λ n. number_from false (scan c.args.bytes.now) ≡ Some (unsigned n))) (sym c.ok.ensures.value)
    (parsed c.args.bytes.now c.parse_u64.result digit c.parse_u64.ensures)
