-- Days one after the other are the calendar's, and their numbers are.
use Rattle.std.proofs.Common.{◌≡◌, ℕ, zero, suc, ◌+◌, ◌<◌, ◌≤◌, inl, inr, refl, ap, ◌∙◌, subst, arith, rules, ℤ, pos, ◌+ℤ◌}
use Rattle.std.proofs.lemmas.Bool.{cases_lt, lt-ltb, le-ltb}
use Rattle.jiff_core.specs.Calendar.{days_in_month, day_count, day_of_year, days_from_civil}
use Rattle.jiff_core.proofs.SignedLemmas.{signed_arith}
use Rattle.jiff_core.proofs.CalendarLemmas.{days_from_civil-day_count, days_in_month_bounds, day_count-later_year, day_count-day_of_year}
use Rattle.jiff_core.proofs.MarchLemmas.{day_count-early}
use Rattle.jiff_core.proofs.DateLemmas.{days_from_civil-day, days_from_civil-next_month, days_from_civil-next_year}
use Rattle.cel_value.specs.Days.{Day, next_day, day_after}

-- the calendar has the day, and it is the nth after 1 January of the year 1
pub record IsCounted (n : ℕ) (d : Day) : Type 0 where
  pub year : 1 ≤ d.year
  pub first_month : 1 ≤ d.month
  pub last_month : d.month ≤ 12
  pub first_date : 1 ≤ d.date
  pub last_date : d.date ≤ days_in_month (pos d.year) d.month
  pub number : days_from_civil (pos d.year) d.month d.date +ℤ pos 719_162 ≡ pos n

first_number : days_from_civil (pos 1) 1 1 +ℤ pos 719_162 ≡ pos 0
first_number =
    omega (arith, signed_arith, days_from_civil-day_count, day_count-early (pos 1) 10000 1 1 refl (omega arith) (omega arith) (omega arith))

pub first_counted : IsCounted 0 (record { year = 1; month = 1; date = 1 })
first_counted =
    record {
      year = omega arith;
      first_month = omega arith;
      last_month = omega arith;
      first_date = omega arith;
      last_date = omega arith;
      number = first_number;
    }

module _ (n : ℕ) (d : Day) (h : IsCounted n d) where
  in_month : d.date < days_in_month (pos d.year) d.month → IsCounted (suc n) (record { year = d.year; month = d.month; date = suc d.date })
  in_month l = record {
    year = h.year;
    first_month = h.first_month;
    last_month = h.last_month;
    first_date = omega arith;
    last_date = omega arith;
    number = omega (arith, signed_arith, h.number, days_from_civil-day (pos d.year) d.month d.date (suc d.date) h.first_date (omega arith));
  }

  next_month : d.date ≡ days_in_month (pos d.year) d.month → d.month < 12
      → IsCounted (suc n) (record { year = d.year; month = suc d.month; date = 1 })
  next_month e l =
      let after : d.month + 1 ≡ suc d.month = omega arith in
      let next = days_from_civil-next_month (pos d.year) d.month d.date h.first_month e in
      let more = subst (λ m. days_from_civil (pos d.year) m 1 ≡ days_from_civil (pos d.year) d.month d.date +ℤ pos 1) after next in
      record {
        year = h.year;
        first_month = omega arith;
        last_month = omega arith;
        first_date = omega arith;
        last_date = omega (arith, days_in_month_bounds (pos d.year) (suc d.month));
        number = omega (arith, signed_arith, h.number, more);
      }

  next_year : d.date ≡ days_in_month (pos d.year) d.month → d.month ≡ 12
      → IsCounted (suc n) (record { year = suc d.year; month = 1; date = 1 })
  next_year e l =
      let last : d.date ≡ 31 = e ∙ ap (days_in_month (pos d.year)) l in
      let in_month_12 = subst (λ m. days_from_civil (pos d.year) m d.date +ℤ pos 719_162 ≡ pos n) l h.number in
      let here : days_from_civil (pos d.year) 12 31 +ℤ pos 719_162 ≡ pos n =
      subst (λ t. days_from_civil (pos d.year) 12 t +ℤ pos 719_162 ≡ pos n) last in_month_12 in
      let next = days_from_civil-next_year (pos d.year) (pos (suc d.year)) (search rules) (omega (arith, signed_arith)) in
      record {
        year = omega arith;
        first_month = omega arith;
        last_month = omega arith;
        first_date = omega arith;
        last_date = omega (arith, days_in_month_bounds (pos (suc d.year)) 1);
        number = omega (arith, signed_arith, here, next);
      }

  pub next_counted : IsCounted (suc n) (next_day d)
  next_counted = elim (cases_lt d.date (days_in_month (pos d.year) d.month)) [
    | inl l ↦ rw (lt-ltb d.date (days_in_month (pos d.year) d.month) l) (in_month l)
    | inr l ↦ rw (le-ltb d.date (days_in_month (pos d.year) d.month) l) (elim (cases_lt d.month 12) [
      | inl k ↦ rw (lt-ltb d.month 12 k) (next_month (let last = h.last_date in omega arith) k)
      | inr k ↦ rw (le-ltb d.month 12 k) (next_year (let last = h.last_date in omega arith) (let low = h.last_month in omega arith))
    ])
  ]

pub counted : (n : ℕ) → IsCounted n (day_after n)
unfolding day_after
counted zero = first_counted
counted (suc n) = next_counted n (day_after n) (counted n)

first_of_9999 : day_count (pos 9999) 1 1 ≡ 7_304_485
first_of_9999 = day_count-early (pos 9999) 19998 1 1 refl (omega arith) (omega arith) (omega arith)

-- a day up to 31 December 9999 is in a year up to 9999
pub counted_year : (n : ℕ) (d : Day) → IsCounted n d → n ≤ 3_652_058 → d.year ≤ 9999
counted_year n d h l = elim (cases_lt 9999 d.year) [
  | inl k ↦
      let later : day_count (pos 9999) 1 1 + 365 ≤ day_count (pos d.year) 1 1 =
      day_count-later_year (pos 9999) (pos d.year) (search rules) (omega (arith, signed_arith)) in
      let counts = day_count-day_of_year (pos d.year) d.month d.date h.first_date in
      let here : day_count (pos d.year) 1 1 ≤ day_count (pos d.year) d.month d.date =
      omega (arith, counts, day_of_year_more (pos d.year) d.month d.date h.first_date) in
      let number = h.number in
      let count = days_from_civil-day_count (pos d.year) d.month d.date in
      let first = first_of_9999 in
      absurd (omega (arith, signed_arith))
  | inr k ↦ k
]
  where
    day_of_year_more : (y : ℤ) (m t : ℕ) → 1 ≤ t → 1 ≤ day_of_year y m t
    day_of_year_more y m t low = omega arith
