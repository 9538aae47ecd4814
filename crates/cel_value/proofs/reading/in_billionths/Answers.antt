use Rattle.std.proofs.Common.{◌≡◌, suc, ◌+◌, ◌-◌, ◌*◌, ◌^◌, arith}
use Rattle.cel_value.proofs.Digits.{ten_pow_most, ten_pow_next, ten_times}
use Rattle.cel_value.proofs.reading.in_billionths.Goals as goal

pub overflow_mul-value : goal.overflow_mul-value
overflow_mul-value c = let most = ten_pow_most c.places.counter 8 (omega arith) in omega arith

pub places-preserved : goal.places-preserved
places-preserved c =
    let next : c.places.counter + 1 - c.args.places ≡ suc (c.places.counter - c.args.places) = omega arith in
    let more : 10 ^ (c.places.counter + 1) ≡ 10 * 10 ^ c.places.counter = ten_pow_next _ _ (omega arith) in (
      ten_times c.args.number c.places.value _ _ next c.places.invariant.0,
      omega arith,
      omega arith,
    )
