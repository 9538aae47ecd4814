-- Which instants and durations texts spell. A text is given by its bytes. Instants are spelled as in RFC 3339, section 5.6
-- (`date-time`), with at most nine digits after the point and no leap second; durations as in Go's `time.ParseDuration`,
-- with a digit on each side of a point and at most nine after it.
use Rattle.std.specs.Prelude.{ℕ, zero, suc, ◌+◌, ◌-◌, ◌*◌, ◌/◌, ◌^◌, nat_eq, nat_le, nat_lt, ℤ, pos, neg_ℤ, ◌+ℤ◌, ◌-ℤ◌, ◌*ℤ◌}
use Rattle.std.specs.Prelude.{Bool, not, ◌&&◌, ◌||◌, List, [], ◌∷◌, length, take, drop, get_or, codes, Option, Some, None, if◌then◌else◌}
use Rattle.std.specs.Char.{is_ascii_digit}
use Rattle.std.specs.List.{prefix_len}
use Rattle.std.specs.Option.{option_map, option_and_then}
use Rattle.std.specs.Str.{all_ascii_digits, bytes_eq}
use Rattle.std.specs.Str.Parse.{digits_value}
use Rattle.jiff_core.specs.Calendar.{days_in_month, days_from_civil}
use Rattle.cel_value.specs.Instants.{instant_of, duration_in_range}

-- the number that digits spell, if there is nothing else
abbrev pub number_of : List ℕ → Option ℕ
number_of ds = if all_ascii_digits ds then Some (digits_value 10 ds) else None

-- the byte at a place
abbrev pub at : List ℕ → ℕ → ℕ
at bytes i = get_or bytes i 0

-- the number of a day, from 1 January 1970, if the calendar has it
abbrev pub day_of_parts : Option ℕ → Option ℕ → Option ℕ → Option ℤ
day_of_parts (Some y) (Some m) (Some d) =
    if (nat_le 1 m && nat_le m 12) && (nat_le 1 d && nat_le d (days_in_month (pos y) m)) then Some (days_from_civil (pos y) m d) else None
day_of_parts _ _ _ = None

-- the number of the day that a date spells: `YYYY-MM-DD` (`full-date`)
abbrev pub day_spelled : List ℕ → Option ℤ
day_spelled bytes =
    if nat_eq (length bytes) 10 && (nat_eq (at bytes 4) 45 && nat_eq (at bytes 7) 45) then
    day_of_parts (number_of (take 4 bytes)) (number_of (take 2 (drop 5 bytes))) (number_of (drop 8 bytes))
    else None

-- the second of a day, if a clock shows it
abbrev pub second_of_parts : Option ℕ → Option ℕ → Option ℕ → Option ℕ
second_of_parts (Some h) (Some m) (Some s) =
    if nat_lt h 24 && (nat_lt m 60 && nat_lt s 60) then Some (h * 3600 + m * 60 + s) else None
second_of_parts _ _ _ = None

-- the second of a day that a time spells: `HH:MM:SS` (`partial-time`, up to its fraction)
abbrev pub second_spelled : List ℕ → Option ℕ
second_spelled bytes =
    if nat_eq (length bytes) 8 && (nat_eq (at bytes 2) 58 && nat_eq (at bytes 5) 58) then
    second_of_parts (number_of (take 2 bytes)) (number_of (take 2 (drop 3 bytes))) (number_of (drop 6 bytes))
    else None

-- how many digits come first
abbrev pub digits_in : List ℕ → ℕ
digits_in bytes = prefix_len is_ascii_digit bytes

-- the billionths that the first k digits, 1 to 9, are after a point, and what follows them
abbrev pub billionths : ℕ → List ℕ → Option (ℕ × List ℕ)
billionths k bytes =
    if nat_le 1 k && nat_le k 9 then option_map (λ n. (n * 10 ^ (9 - k), drop k bytes)) (number_of (take k bytes)) else None

-- the billionths of the fraction that comes first (`time-secfrac`), 0 without a point, and what follows it
abbrev pub fraction_spelled : List ℕ → Option (ℕ × List ℕ)
fraction_spelled [] = Some (0, [])
fraction_spelled (c ∷ bytes) = if nat_eq c 46 then billionths (digits_in bytes) bytes else Some (0, c ∷ bytes)

-- the seconds of an hour and a minute, if a clock shows them
abbrev pub seconds_of_parts : Option ℕ → Option ℕ → Option ℕ
seconds_of_parts (Some h) (Some m) = if nat_lt h 24 && nat_lt m 60 then Some (h * 3600 + m * 60) else None
seconds_of_parts _ _ = None

-- the seconds that a clock without seconds shows: `HH:MM`
abbrev pub clock_spelled : List ℕ → Option ℕ
clock_spelled bytes =
    if nat_eq (length bytes) 5 && nat_eq (at bytes 2) 58 then
    seconds_of_parts (number_of (take 2 bytes)) (number_of (drop 3 bytes))
    else None

-- a number after a minus
abbrev pub below_zero : ℕ → ℤ
below_zero n = neg_ℤ (pos n)

-- the seconds ahead of UTC that an offset spells: `Z`, `z`, `+HH:MM` or `-HH:MM` (`time-offset`)
abbrev pub offset_spelled : List ℕ → Option ℤ
offset_spelled [] = None
offset_spelled (c ∷ clock) =
    if (nat_eq c 90 || nat_eq c 122) && nat_eq (length clock) 0 then Some (pos 0) else
    if nat_eq c 43 then option_map pos (clock_spelled clock) else
    if nat_eq c 45 then option_map below_zero (clock_spelled clock) else None

-- the instant at a second and billionths of a day, on a clock that is so many seconds ahead of UTC, if it is in range
abbrev pub instant_at : ℤ → ℕ → ℤ → ℕ → Option ℤ
instant_at d s ahead f = instant_of ((d *ℤ pos 86_400 +ℤ pos s -ℤ ahead) *ℤ pos 1_000_000_000 +ℤ pos f)

-- the same, by what a text spells: a day, a second of it, and a fraction with an offset after it
abbrev pub instant_of_parts : Option ℤ → Option ℕ → Option (ℕ × List ℕ) → Option ℤ
instant_of_parts (Some d) (Some s) (Some f) = option_and_then (λ ahead. instant_at d s ahead f.0) (offset_spelled f.1)
instant_of_parts _ _ _ = None

-- what is between a date and a time: `T` or `t`
abbrev pub is_separator : ℕ → Bool
is_separator c = nat_eq c 84 || nat_eq c 116

-- the instant that a text spells (`date-time`): a date, `T` or `t`, a time, perhaps a fraction, and an offset
abbrev pub timestamp_of : List ℕ → Option ℤ
timestamp_of bytes =
    if nat_le 20 (length bytes) && is_separator (at bytes 10) then
    instant_of_parts (day_spelled (take 10 bytes)) (second_spelled (take 8 (drop 11 bytes))) (fraction_spelled (drop 19 bytes))
    else None

-- the first instant of the day that a text spells, in UTC
abbrev pub date_of : List ℕ → Option ℤ
date_of bytes = option_and_then (λ d. instant_of (d *ℤ pos 86_400_000_000_000)) (day_spelled bytes)

-- the nanoseconds of a unit: an hour, a minute, a second, and the thousandth, millionth and billionth of one
abbrev pub unit_of : List ℕ → Option ℕ
unit_of unit =
    if bytes_eq unit (codes "h") then Some 3_600_000_000_000 else
    if bytes_eq unit (codes "m") then Some 60_000_000_000 else
    if bytes_eq unit (codes "s") then Some 1_000_000_000 else
    if bytes_eq unit (codes "ms") then Some 1_000_000 else
    if bytes_eq unit (codes "us") then Some 1_000 else
    if bytes_eq unit (codes "ns") then Some 1 else None

-- how many bytes that are no digits come first
abbrev pub letters_in : List ℕ → ℕ
letters_in bytes = prefix_len (λ c. not (is_ascii_digit c)) bytes

-- so many units and billionths of one, cut to whole nanoseconds, with what follows the unit, which goes up to the next digit
abbrev pub of_unit : ℕ → ℕ × List ℕ → Option (ℕ × List ℕ)
of_unit whole f =
    option_map (λ u. (whole * u + f.0 * u / 1_000_000_000, drop (letters_in f.1) f.1)) (unit_of (take (letters_in f.1) f.1))

-- the nanoseconds of the part that comes first: digits, perhaps a fraction, and a unit; and what follows it
abbrev pub part_spelled : List ℕ → Option (ℕ × List ℕ)
part_spelled bytes =
    if nat_le 1 (digits_in bytes) then
    option_and_then (of_unit (digits_value 10 (take (digits_in bytes) bytes))) (fraction_spelled (drop (digits_in bytes) bytes))
    else None

-- the sum of the parts that a text is made of, at most so many
unfoldable pub parts_spelled : ℕ → List ℕ → Option ℕ
parts_spelled most [] = Some 0
parts_spelled zero (c ∷ bytes) = None
parts_spelled (suc most) (c ∷ bytes) = option_and_then (λ p. option_map (λ n. p.0 + n) (parts_spelled most p.1)) (part_spelled (c ∷ bytes))

-- the nanoseconds that a text without a sign spells: `0`, or one part or more
abbrev pub length_spelled : List ℕ → Option ℕ
length_spelled bytes =
    if bytes_eq bytes (codes "0") then Some 0 else (if nat_le 1 (length bytes) then parts_spelled (length bytes) bytes else None)

-- the duration that a text spells: perhaps a sign, and a length, if it is in range
abbrev pub duration_of : List ℕ → Option ℤ
duration_of [] = None
duration_of (c ∷ bytes) =
    if nat_eq c 45 then option_and_then (λ n. duration_in_range (below_zero n)) (length_spelled bytes) else
    if nat_eq c 43 then option_and_then (λ n. duration_in_range (pos n)) (length_spelled bytes) else
    option_and_then (λ n. duration_in_range (pos n)) (length_spelled (c ∷ bytes))
