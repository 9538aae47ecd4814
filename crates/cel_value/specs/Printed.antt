-- How instants and durations are printed: instants as in RFC 3339, in UTC, and durations in seconds.
use Rattle.std.specs.Prelude.{ℕ, zero, suc, ◌+◌, ◌/◌, ◌%◌, ◌^◌, nat_eq, ℤ, int_lt, pos, unsigned_abs, List, [], ◌∷◌, ◌++◌, codes}
use Rattle.std.specs.Prelude.{decimal, if◌then◌else◌}
use Rattle.cel_value.specs.Days.{day_of, day_time, hour_of, minute_of, second_of, nanosecond_of}

-- a number below 100 in two digits
abbrev pub two_digits : ℕ → List ℕ
two_digits n = (48 + n / 10) ∷ (48 + n % 10) ∷ []

-- a number below 10,000 in four digits
abbrev pub four_digits : ℕ → List ℕ
four_digits n = two_digits (n / 100) ++ two_digits (n % 100)

-- the digits of a fraction after its point, at most so many, up to the last that is not 0
unfoldable pub fraction_digits : ℕ → ℕ → List ℕ
fraction_digits zero n = []
fraction_digits (suc k) n = if nat_eq n 0 then [] else (48 + n / 10 ^ k) ∷ fraction_digits k (n % 10 ^ k)

-- billionths, with the point in front; nothing if there are none
abbrev pub fraction_text : ℕ → List ℕ
fraction_text n = if nat_eq n 0 then [] else 46 ∷ fraction_digits 9 n

-- `-` in front of what is below zero
abbrev pub minus_of : ℤ → List ℕ
minus_of n = if int_lt n (pos 0) then codes "-" else []

-- a duration in seconds
unfoldable pub duration_text : ℤ → List ℕ
duration_text n =
    minus_of n ++ decimal (unsigned_abs n / 1_000_000_000) ++ fraction_text (unsigned_abs n % 1_000_000_000) ++ codes "s"

-- `YYYY-MM-DD`
abbrev pub date_text : ℕ → ℕ → ℕ → List ℕ
date_text year month date = four_digits year ++ codes "-" ++ two_digits month ++ codes "-" ++ two_digits date

-- `HH:MM:SS`, perhaps with a fraction
abbrev pub time_text : ℕ → ℕ → ℕ → ℕ → List ℕ
time_text hour minute second nanosecond =
    two_digits hour ++ codes ":" ++ two_digits minute ++ codes ":" ++ two_digits second ++ fraction_text nanosecond

-- an instant in UTC, with its fraction up to the last digit that is not 0
unfoldable pub timestamp_text : ℤ → List ℕ
timestamp_text n =
    date_text (day_of n).year (day_of n).month (day_of n).date ++ codes "T"
    ++ time_text (hour_of (day_time n)) (minute_of (day_time n)) (second_of (day_time n)) (nanosecond_of (day_time n)) ++ codes "Z"
