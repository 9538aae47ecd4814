-- The rows of timestamps and durations are right.
use Rattle.std.proofs.Common.{◌≡◌, ◌^◌, ◌≤◌, cond, Bool, true, false, Option, Some, None, refl, arith}
use Rattle.std.proofs.Common.{ℤ, pos, negsuc, unsigned_abs}
use Rattle.std.proofs.lemmas.Bool.{ltb-true}
use Rattle.std.specs.Prelude.{Ok, Err}
use Rattle.cel_value.specs.declared.value.Value.{Value}
use Rattle.cel_value.specs.declared.value.Value as value
use Rattle.cel_value.specs.declared.cel_type.CelType.{CelType}
use Rattle.cel_value.specs.declared.cel_type.CelType as type
use Rattle.cel_value.specs.declared.cel_error.CelError.TheVariants.{Overflow}
use Rattle.cel_value.specs.CelType.{fits}
use Rattle.cel_value.specs.Printed.{timestamp_text, duration_text}
use Rattle.cel_value.proofs.DurationBack.{duration_short}
use Rattle.cel_value.proofs.TimestampBack.{timestamp_short}
use Rattle.cel_operators.specs.Outcomes.{outcome_fits}
use Rattle.cel_operators.specs.Operators.{in_range, or_overflow, string_of_duration}
use Rattle.cel_operators.proofs.Opened.{timestamp_fits, duration_fits, text_fits}
use Rattle.cel_operators.proofs.Digits.{code_points_le}

-- nanoseconds that are in range, or Overflow
ranged_fits : (f : ℤ → Value) (t : CelType) → ((n : ℤ) → fits (f n) t ≡ true) → (o : Option ℤ)
    → outcome_fits t (Some (or_overflow f o)) ≡ true
ranged_fits f t h None = refl
ranged_fits f t h (Some n) = h n

pub timestamp_or_overflow : (o : Option ℤ) → outcome_fits type.Timestamp (Some (or_overflow value.Timestamp o)) ≡ true
timestamp_or_overflow o = ranged_fits value.Timestamp type.Timestamp timestamp_fits o

pub duration_or_overflow : (o : Option ℤ) → outcome_fits type.Duration (Some (or_overflow value.Duration o)) ≡ true
duration_or_overflow o = ranged_fits value.Duration type.Duration duration_fits o

pub string_of_timestamp_fits : (n : ℤ) → outcome_fits (type.Text 30) (Some (Ok (value.Text (timestamp_text n)))) ≡ true
string_of_timestamp_fits n = text_fits (timestamp_text n) 30 (omega (arith, code_points_le (timestamp_text n), timestamp_short n))

within_64 : (z : ℤ) → in_range z ≡ true → unsigned_abs z ≤ 2 ^ 63
within_64 (pos n) h = omega (arith, ltb-true n (2 ^ 63) h)
within_64 (negsuc n) h = omega (arith, ltb-true n (2 ^ 63) h)

pub string_of_duration_fits : (z : ℤ) → outcome_fits (type.Text 22) (Some (string_of_duration z)) ≡ true
string_of_duration_fits z = printed (in_range z) refl
  where
    printed : (b : Bool) → in_range z ≡ b
        → outcome_fits (type.Text 22) (Some (cond b (Ok (value.Text (duration_text z))) (Err Overflow))) ≡ true
    printed true e = text_fits (duration_text z) 22 (omega (arith, code_points_le (duration_text z), duration_short z (within_64 z e)))
    printed false e = refl
