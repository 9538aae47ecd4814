-- A date and a time of day that make up an instant are its day and its time of day.
use Rattle.std.proofs.Common.{◌≡◌, ℕ, ◌≤◌, refl, ap, ◌∙◌, arith, ℤ, pos, negsuc, ◌+ℤ◌, ◌≤ℤ◌, unsigned_abs}
use Rattle.std.specs.Int.{int_div_euclid}
use Rattle.jiff_core.specs.declared.civil.date.Date.{Date}
use Rattle.jiff_core.specs.declared.civil.datetime.DateTime.{DateTime}
use Rattle.jiff_core.specs.Date.{epoch_day}
use Rattle.jiff_core.specs.DateTime.{civil_nanos, IsCivilNanos}
use Rattle.jiff_core.specs.Time.{time_nanos}
use Rattle.jiff_core.proofs.SignedLemmas.{signed_arith}
use Rattle.jiff_core.proofs.DateLemmas.{epoch_day_injective}
use Rattle.jiff_core.proofs.DateTimeLemmas.{civil_nanos-parts, time_nanos_bound, epoch_day-civil_nanos}
use Rattle.cel_value.specs.Days.{Day, day_after, day_number, day_time, day_of}
use Rattle.cel_value.specs.Instants.{IsInstant, IsDayAndTime, IsFields}
use Rattle.cel_value.proofs.Counted.{IsCounted, counted, counted_year}

pub instant_civil : (n : ℤ) → IsInstant n → IsCivilNanos n
instant_civil n h = omega (arith, signed_arith)

-- the number of the day, from 1 January of the year 1
abbrev pub days_before : ℤ → ℕ
days_before n = unsigned_abs (day_number n +ℤ pos 719_162)

not_below : (z : ℤ) → pos 0 ≤ℤ z → pos (unsigned_abs z) ≡ z
not_below (pos n) h = refl
not_below (negsuc n) h = absurd (omega (arith, signed_arith))

pub days_before_is : (n : ℤ) → IsInstant n → (pos (days_before n) ≡ day_number n +ℤ pos 719_162) × (days_before n ≤ 3_652_058)
days_before_is n h =
    let z = day_number n +ℤ pos 719_162 in
    let low : pos 0 ≤ℤ z = omega (arith, signed_arith) in
    let same = not_below z low in (same, omega (arith, signed_arith))

pub counted_date : (n : ℕ) (d : Day) → IsCounted n d → n ≤ 3_652_058 → Date
counted_date n d h l = record {
  year = pos d.year;
  month = d.month;
  day = d.date;
  year_in = (let k = counted_year n d h l in omega (arith, signed_arith));
  month_in = (h.first_month, h.last_month);
  day_in = (h.first_date, h.last_date);
}

pub date_is : (n : ℤ) → IsInstant n → (d : Date) → epoch_day d ≡ day_number n
    → (d.year ≡ pos (day_of n).year) × (d.month ≡ (day_of n).month) × (d.day ≡ (day_of n).date)
unfolding counted_date
date_is n h d e =
    let before = days_before_is n h in
    let day = counted (days_before n) in
    let other = counted_date (days_before n) (day_after (days_before n)) day before.1 in
    let number = day.number in
    let same : epoch_day d ≡ epoch_day other = omega (arith, signed_arith, before.0) in
    epoch_day_injective d other same

pub fields : (dt : DateTime) (n : ℤ) → IsInstant n → civil_nanos dt ≡ n → IsFields dt n
fields dt n h e =
    let number : epoch_day dt.date ≡ day_number n = epoch_day-civil_nanos dt ∙ ap (λ z. int_div_euclid z (pos 86_400_000_000_000)) e in
    let parts = civil_nanos-parts dt in
    let bound = time_nanos_bound dt.time in
    let time : time_nanos dt.time ≡ day_time n = omega (arith, signed_arith) in
    let day = date_is n h dt.date number in
    record {
      year = day.0;
      month = day.1;
      date = day.2;
      number = number;
      time = time;
      hour = omega arith;
      minute = omega arith;
      second = omega arith;
      nanosecond = omega arith;
    }

-- an instant is its day and its time of day
pub whole_is : (n : ℤ) → IsInstant n → IsDayAndTime n
whole_is n h =
    let counts = (counted (days_before n)).number in
    let before = days_before_is n h in
    omega (arith, signed_arith, before.0)
