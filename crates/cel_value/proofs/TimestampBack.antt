-- What is printed of an instant reads back.
use Rattle.std.proofs.Common.{◌≡◌, ℕ, ◌+◌, ◌*◌, ◌/◌, ◌%◌, ◌<◌, ◌≤◌, Some, ◌++◌, length, length-append, refl, sym, ap, ap₂, ◌∙◌}
use Rattle.std.proofs.Common.{arith, ℤ, pos, ◌+ℤ◌, ◌-ℤ◌, ◌*ℤ◌}
use Rattle.std.proofs.lemmas.Bool.{le-leb, lt-ltb}
use Rattle.std.proofs.lemmas.Bool.Decides.{nat_tests}
use Rattle.std.specs.Prelude.{codes}
use Rattle.jiff_core.specs.Calendar.{days_in_month, days_from_civil}
use Rattle.jiff_core.proofs.CalendarLemmas.{days_in_month_bounds}
use Rattle.jiff_core.proofs.SignedLemmas.{signed_arith}
use Rattle.cel_value.specs.Days.{day_of, day_time, hour_of, minute_of, second_of, nanosecond_of}
use Rattle.cel_value.specs.Instants.{IsInstant, instant_of}
use Rattle.cel_value.specs.Printed.{two_digits, four_digits, fraction_text, date_text, timestamp_text}
use Rattle.cel_value.specs.Reading.{number_of, day_of_parts, day_spelled, second_of_parts, second_spelled, timestamp_of}
use Rattle.cel_value.proofs.Back.{digit_there, fraction_back, fraction_short}
use Rattle.cel_value.proofs.Counted.{counted, counted_year}
use Rattle.cel_value.proofs.Fields.{days_before, days_before_is, whole_is}
use Rattle.cel_value.proofs.Stamps.{stamp}

two_back : (n : ℕ) → n < 100 → number_of (two_digits n) ≡ Some n
two_back n h =
    let high = digit_there (n / 10) (omega arith) in
    let low = digit_there (n % 10) (omega arith) in
    let value : (0 * 10 + n / 10) * 10 + n % 10 ≡ n = omega arith in
    rw (high.0, low.0, high.1, low.1) (ap Some value)

four_back : (n : ℕ) → n < 10_000 → number_of (four_digits n) ≡ Some n
four_back n h =
    let a = digit_there (n / 100 / 10) (omega arith) in
    let b = digit_there (n / 100 % 10) (omega arith) in
    let c = digit_there (n % 100 / 10) (omega arith) in
    let d = digit_there (n % 100 % 10) (omega arith) in
    let value : (((0 * 10 + n / 100 / 10) * 10 + n / 100 % 10) * 10 + n % 100 / 10) * 10 + n % 100 % 10 ≡ n = omega arith in
    rw (a.0, b.0, c.0, d.0, a.1, b.1, c.1, d.1) (ap Some value)

day_back : (y m d : ℕ) → y ≤ 9999 → 1 ≤ m → m ≤ 12 → 1 ≤ d → d ≤ days_in_month (pos y) m → d ≤ 31
    → day_spelled (date_text y m d) ≡ Some (days_from_civil (pos y) m d)
day_back y m d a b c e f g =
    ap (λ o. day_of_parts o (number_of (two_digits m)) (number_of (two_digits d))) (four_back y (omega arith))
    ∙ ap₂ (λ o p. day_of_parts (Some y) o p) (two_back m (omega arith)) (two_back d (omega arith))
    ∙ rw (le-leb 1 m b, le-leb m 12 c, le-leb 1 d e, le-leb d (days_in_month (pos y) m) f) refl

second_back : (h m s : ℕ) → h < 24 → m < 60 → s < 60
    → second_spelled (two_digits h ++ codes ":" ++ two_digits m ++ codes ":" ++ two_digits s) ≡ Some (h * 3600 + m * 60 + s)
second_back h m s a b c =
    ap (λ o. second_of_parts o (number_of (two_digits m)) (number_of (two_digits s))) (two_back h (omega arith))
    ∙ ap₂ (λ o p. second_of_parts (Some h) o p) (two_back m (omega arith)) (two_back s (omega arith))
    ∙ rw (lt-ltb h 24 a, lt-ltb m 60 b, lt-ltb s 60 c) refl

instant_there : (n : ℤ) → IsInstant n → instant_of n ≡ Some n
instant_there n h = grind (arith, signed_arith, nat_tests)

text_length : (n : ℤ) → length (timestamp_text n) ≡ 20 + length (fraction_text (nanosecond_of (day_time n)))
unfolding timestamp_text
text_length n =
    let f = fraction_text (nanosecond_of (day_time n)) in
    omega (arith, length-append f (codes "Z"))

pub timestamp_back : (n : ℤ) → IsInstant n → timestamp_of (timestamp_text n) ≡ Some n
unfolding timestamp_text
timestamp_back n h =
    let text = timestamp_text n in
    let t = day_time n in
    let before = days_before_is n h in
    let day = counted (days_before n) in
    let year = counted_year (days_before n) (day_of n) day before.1 in
    let in_day : t < 86_400_000_000_000 = omega (arith, signed_arith) in
    let date =
    sym (day_back (day_of n).year (day_of n).month (day_of n).date year day.first_month day.last_month day.first_date day.last_date
    (let last = day.last_date in omega (arith, days_in_month_bounds (pos (day_of n).year) (day_of n).month))) in
    let clock = sym (second_back (hour_of t) (minute_of t) (second_of t) (omega arith) (omega arith) (omega arith)) in
    let fraction = sym (fraction_back (nanosecond_of t) 90 (omega arith) refl refl) in
    let number = days_from_civil (pos (day_of n).year) (day_of n).month (day_of n).date in
    let whole = whole_is n h in
    let seconds = hour_of t * 3600 + minute_of t * 60 + second_of t in
    let time : seconds * 1_000_000_000 + nanosecond_of t ≡ t = omega arith in
    let same : (number *ℤ pos 86_400 +ℤ pos seconds -ℤ pos 0) *ℤ pos 1_000_000_000 +ℤ pos (nanosecond_of t) ≡ n =
    omega (arith, signed_arith) in
    sym (stamp text (let l = text_length n in omega arith) refl _ _ _ date clock fraction) ∙ ap instant_of same ∙ instant_there n h

pub timestamp_short : (n : ℤ) → length (timestamp_text n) ≤ 30
timestamp_short n = omega (arith, text_length n, fraction_short (nanosecond_of (day_time n)) (omega arith))
