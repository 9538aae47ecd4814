-- Instants and durations, in nanoseconds, and their ranges.
use Rattle.std.specs.Prelude.{◌^◌, ◌≡◌, ℤ, pos, neg_ℤ, ◌+ℤ◌, ◌*ℤ◌, int_le, int_lt, Bool, ◌&&◌, Option, Some, None, if◌then◌else◌}
use Rattle.jiff_core.specs.Calendar.{IsBetween, days_from_civil}
use Rattle.jiff_core.specs.declared.civil.datetime.DateTime.{DateTime}
use Rattle.jiff_core.specs.Date.{epoch_day}
use Rattle.jiff_core.specs.Time.{time_nanos}
use Rattle.cel_value.specs.Days.{day_of, day_time, day_number, hour_of, minute_of, second_of, nanosecond_of}

-- the first nanosecond of the year 1, from that of 1970
abbrev pub first_instant : ℤ
first_instant = neg_ℤ (pos 62_135_596_800_000_000_000)

-- the last nanosecond of the year 9999
abbrev pub last_instant : ℤ
last_instant = pos 253_402_300_799_999_999_999

-- whether an instant is in a year from 1 to 9999
abbrev pub is_instant : ℤ → Bool
is_instant n = int_le first_instant n && int_le n last_instant

-- the same, as a fact
abbrev pub IsInstant : ℤ → Type 0
IsInstant n = IsBetween first_instant last_instant n

-- an instant, if it is in range
abbrev pub instant_of : ℤ → Option ℤ
instant_of n = if is_instant n then Some n else None

-- a duration, if 64 bits hold it, two's complement
abbrev pub duration_in_range : ℤ → Option ℤ
duration_in_range n = if int_le (neg_ℤ (pos (2 ^ 63))) n && int_lt n (pos (2 ^ 63)) then Some n else None

-- an instant is the number of its day, as the calendar has it, and its time of day
abbrev pub IsDayAndTime : ℤ → Type 0
IsDayAndTime n =
    days_from_civil (pos (day_of n).year) (day_of n).month (day_of n).date *ℤ pos 86_400_000_000_000 +ℤ pos (day_time n) ≡ n

-- what a date and a time that make up an instant are
pub record IsFields (dt : DateTime) (n : ℤ) : Type 0 where
  pub year : dt.date.year ≡ pos (day_of n).year
  pub month : dt.date.month ≡ (day_of n).month
  pub date : dt.date.day ≡ (day_of n).date
  pub number : epoch_day dt.date ≡ day_number n
  pub time : time_nanos dt.time ≡ day_time n
  pub hour : dt.time.hour ≡ hour_of (day_time n)
  pub minute : dt.time.minute ≡ minute_of (day_time n)
  pub second : dt.time.second ≡ second_of (day_time n)
  pub nanosecond : dt.time.subsec_nanosecond ≡ nanosecond_of (day_time n)
