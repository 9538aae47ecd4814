-- Instants by the parts of their texts.
use Rattle.std.proofs.Common.{◌≡◌, ℕ, ◌≤◌, true, nat_le, ◌&&◌, Some, Option, List, length, take, drop, refl, ap, ◌∙◌, arith, ℤ, pos}
use Rattle.std.proofs.Common.{neg_ℤ, ◌-ℤ◌, ◌<◌, ◌^◌, to_z, of_z, w32, take_all, length-drop, ◌-◌}
use Rattle.std.proofs.lemmas.Bool.{le-leb}
use Rattle.std.proofs.lemmas.Bool.Decides.{nat_tests}
use Rattle.jiff_core.specs.declared.civil.date.Date.{Date}
use Rattle.jiff_core.specs.Calendar.{IsDate, days_in_month, days_from_civil}
use Rattle.jiff_core.specs.Date.{IsYmd, epoch_day}
use Rattle.jiff_core.proofs.SignedLemmas.{signed_arith, signed_casts}
use Rattle.cel_value.specs.Reading.{at, is_separator, day_spelled, second_spelled, fraction_spelled, instant_of_parts, timestamp_of}
use Rattle.cel_value.specs.Reading.{day_of_parts}

module _ (text : List ℕ) (long : 20 ≤ length text) (separated : is_separator (at text 10) ≡ true) where
  pub stamp : (d : Option ℤ) (s : Option ℕ) (f : Option (ℕ × List ℕ)) → d ≡ day_spelled (take 10 text)
      → s ≡ second_spelled (take 8 (drop 11 text))
      → f ≡ fraction_spelled (drop 19 text) → instant_of_parts d s f ≡ timestamp_of text
  stamp d s f e g h = rw (e, g, h, le-leb 20 (length text) long, separated) refl

-- the day that a date has which is made of three numbers
pub day_made : (y m d : ℕ) (date : Date) (z : ℤ) → IsDate (pos y) (pos m) (pos d) → IsYmd (pos y) (pos m) (pos d) date → z ≡ epoch_day date
    → Some z ≡ day_of_parts (Some y) (Some m) (Some d)
day_made y m d date z h k e =
    let month : (nat_le 1 m && nat_le m 12) ≡ true = grind (arith, signed_arith, nat_tests) in
    let day : (nat_le 1 d && nat_le d (days_in_month (pos y) m)) ≡ true = grind (arith, signed_arith, nat_tests) in
    let same_month : date.month ≡ m = omega (arith, signed_arith) in
    let same_day : date.day ≡ d = omega (arith, signed_arith) in
    let number : epoch_day date ≡ days_from_civil (pos y) m d = rw (k.0, same_month, same_day) refl in
    rw (month, day) (ap Some (e ∙ number))

-- a small number below zero, as 32 bits have it
pub negated : (k : ℕ) → k < 2 ^ 31 → to_z w32 (of_z w32 (pos 0 -ℤ to_z w32 k)) ≡ neg_ℤ (pos k)
negated k h = omega (arith, signed_casts)

pub tail : (k : ℕ) (bs : List ℕ) → take (length bs - k) (drop k bs) ≡ drop k bs
tail k bs = take_all (length bs - k) (drop k bs) (omega (arith, length-drop k bs))
