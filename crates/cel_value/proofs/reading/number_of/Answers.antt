use Rattle.std.proofs.Common.{arith}
use Rattle.cel_value.proofs.Digits.{ten_pow_most}
use Rattle.cel_value.proofs.reading.number_of.Goals as goal

pub overflow_mul-number : goal.overflow_mul-number
overflow_mul-number c = let most = ten_pow_most c.loop-digit.digit-index 8 (omega arith) in omega arith

pub overflow_add-number : goal.overflow_add-number
overflow_add-number c = let most = ten_pow_most c.loop-digit.digit-index 8 (omega arith) in omega arith
