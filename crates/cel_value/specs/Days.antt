-- Days of the proleptic Gregorian calendar, one after the other, and days and times of day of instants, in UTC. An instant is
-- its nanoseconds since 1970 began, and may be before.
use Rattle.std.specs.Prelude.{ℕ, zero, suc, ◌+◌, ◌-◌, ◌/◌, ◌%◌, nat_lt, ℤ, pos, ◌+ℤ◌, unsigned_abs, if◌then◌else◌}
use Rattle.std.specs.Int.{int_div_euclid, int_rem_euclid}
use Rattle.jiff_core.specs.Calendar.{days_in_month, day_of_year, weekday_number}

-- a day by its year, its month from 1 and its day of the month from 1
pub record Day : Type 0 where
  pub year : ℕ
  pub month : ℕ
  pub date : ℕ

-- the day after another: in its month, else in the next month, else in the next year
abbrev pub next_day : Day → Day
next_day d =
    if nat_lt d.date (days_in_month (pos d.year) d.month) then record { year = d.year; month = d.month; date = suc d.date }
    else (if nat_lt d.month 12 then record { year = d.year; month = suc d.month; date = 1 }
    else record { year = suc d.year; month = 1; date = 1 })

-- the day so many days after 1 January of the year 1
unfoldable pub day_after : ℕ → Day
day_after zero = record { year = 1; month = 1; date = 1 }
day_after (suc n) = next_day (day_after n)

-- the number of an instant's day: that of 1 January 1970 is 0
abbrev pub day_number : ℤ → ℤ
day_number n = int_div_euclid n (pos 86_400_000_000_000)

-- the nanoseconds since that day began
abbrev pub day_time : ℤ → ℕ
day_time n = unsigned_abs (int_rem_euclid n (pos 86_400_000_000_000))

-- the day of an instant: 1 January 1970 is 719,162 days after 1 January of the year 1
abbrev pub day_of : ℤ → Day
day_of n = day_after (unsigned_abs (day_number n +ℤ pos 719_162))

-- the place of a day in its year, from 0
abbrev pub place_in_year : Day → ℕ
place_in_year d = day_of_year (pos d.year) d.month d.date - 1

-- the day of the week, from 0 for Sunday
abbrev pub weekday_of : ℤ → ℕ
weekday_of n = (weekday_number (day_number n) + 1) % 7

-- the hour of a time of day
abbrev pub hour_of : ℕ → ℕ
hour_of t = t / 3_600_000_000_000

-- the minute of the hour
abbrev pub minute_of : ℕ → ℕ
minute_of t = t / 60_000_000_000 % 60

-- the second of the minute
abbrev pub second_of : ℕ → ℕ
second_of t = t / 1_000_000_000 % 60

-- the nanosecond of the second
abbrev pub nanosecond_of : ℕ → ℕ
nanosecond_of t = t % 1_000_000_000
