-- Rows worked by hand, for the definitions themselves.
use Rattle.std.proofs.Common.{◌≡◌, ◌++◌, Some, None, refl, codes, decimal, pos, negsuc}
use Rattle.cel_value.specs.Days.{next_day}
use Rattle.cel_value.specs.Instants.{instant_of}
use Rattle.cel_value.specs.Printed.{date_text, fraction_digits, fraction_text, duration_text}
use Rattle.cel_value.specs.Reading.{second_spelled, offset_spelled, parts_spelled, duration_of}

-- ---- days: a leap year every four, but of full centuries only every fourth

behind_28_february : next_day (record { year = 2023; month = 2; date = 28 }) ≡ record { year = 2023; month = 3; date = 1 }
behind_28_february = refl

leap_day : next_day (record { year = 2024; month = 2; date = 28 }) ≡ record { year = 2024; month = 2; date = 29 }
leap_day = refl

century : next_day (record { year = 1900; month = 2; date = 28 }) ≡ record { year = 1900; month = 3; date = 1 }
century = refl

fourth_century : next_day (record { year = 2000; month = 2; date = 28 }) ≡ record { year = 2000; month = 2; date = 29 }
fourth_century = refl

new_year : next_day (record { year = 1969; month = 12; date = 31 }) ≡ record { year = 1970; month = 1; date = 1 }
new_year = refl

-- ---- instants: the last of the year 9999, and one after it

last : instant_of (pos 253_402_300_799_999_999_999) ≡ Some (pos 253_402_300_799_999_999_999)
last = refl

past_the_last : instant_of (pos 253_402_300_800_000_000_000) ≡ None
past_the_last = refl

no_leap_second : second_spelled (codes "23:59:60") ≡ None
no_leap_second = refl

behind_utc : offset_spelled (codes "-01:30") ≡ Some (negsuc 5399)
behind_utc = refl

no_offset_of_a_day : offset_spelled (codes "+24:00") ≡ None
no_offset_of_a_day = refl

-- ---- durations: the sign is that of all parts, and each part is cut by itself

hours_and_minutes : duration_of (codes "1h30m") ≡ Some (pos 5_400_000_000_000)
unfolding parts_spelled
hours_and_minutes = refl

sign_of_all : duration_of (codes "-1h30m") ≡ Some (negsuc 5_399_999_999_999)
unfolding parts_spelled
sign_of_all = refl

cut_by_itself : duration_of (codes "0.6ns0.6ns") ≡ Some (pos 0)
unfolding parts_spelled
cut_by_itself = refl

least : duration_of (codes "-9223372036854775808ns") ≡ Some (negsuc 9_223_372_036_854_775_807)
unfolding parts_spelled
least = refl

past_the_greatest : duration_of (codes "2562048h") ≡ None
unfolding parts_spelled
past_the_greatest = refl

ten_digits : duration_of (codes "1.0000000001s") ≡ None
unfolding parts_spelled
ten_digits = refl

no_digit_in_front : duration_of (codes ".5s") ≡ None
unfolding parts_spelled
no_digit_in_front = refl

no_unit : duration_of (codes "1") ≡ None
unfolding parts_spelled
no_unit = refl

-- ---- texts: digits up to the last that is not 0

half : fraction_text 500_000_000 ≡ codes ".5"
unfolding fraction_digits
half = refl

first_day : date_text 1 1 1 ≡ codes "0001-01-01"
first_day = refl

below_zero_text : duration_text (negsuc 1_499_999_999) ≡ codes "-" ++ decimal 1 ++ codes ".5" ++ codes "s"
unfolding duration_text fraction_digits
below_zero_text = refl
