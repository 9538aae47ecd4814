use Rattle.std.proofs.Common.{◌≡◌, refl, ap, ◌∙◌, arith, pos, to_z, of_z, w32, w16, w8}
use Rattle.jiff_core.specs.Date.{epoch_day}
use Rattle.jiff_core.proofs.SignedLemmas.{signed_casts}
use Rattle.cel_value.proofs.Stamps.{day_made}
use Rattle.cel_value.proofs.reading.day_of_parts.Goals as goal

pub returns-in-Ok : goal.returns-in-Ok
returns-in-Ok c =
    let y : to_z w16 c.args.year ≡ pos c.args.year = omega (arith, signed_casts) in
    let m : to_z w8 c.args.month ≡ pos c.args.month = omega (arith, signed_casts) in
    let d : to_z w8 c.args.day ≡ pos c.args.day = omega (arith, signed_casts) in
    let told = c.in-Ok.ensures {u = tt} in
    let is_date = rw (y, m, d) at (told.succeeds.0 refl) in
    let is_ymd = rw (y, m, d) at told.value in
    let value = c.to_unix_epoch_day.ensures.value ∙ ap epoch_day c.to_plain.ensures in
    let bound = c.to_unix_epoch_day.ensures.bound in
    let back : to_z w32 (of_z w32 c.to_unix_epoch_day.result) ≡ c.to_unix_epoch_day.result = omega (arith, signed_casts) in
    day_made c.args.year c.args.month c.args.day c.in-Ok.date _ is_date is_ymd (back ∙ value)
