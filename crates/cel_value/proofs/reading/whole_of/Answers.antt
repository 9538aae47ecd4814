use Rattle.std.proofs.Common.{◌≡◌, ◌+◌, ◌-◌, ◌*◌, take, get_or, ap, ◌∙◌, rules}
use Rattle.std.proofs.lemmas.Int.Digits.{digits_value_more}
use Rattle.std.specs.Str.Parse.{digits_value}
use Rattle.cel_value.proofs.Digits.{digit, digit_at, capped_digit}
use Rattle.cel_value.proofs.reading.whole_of.Goals as goal

pub overflow_sub-digit : goal.overflow_sub-digit
overflow_sub-digit c = (digit _ (digit_at c.args.digits.now c.loop-digit.digit-index c.requires c.loop-digit-test.true)).0

pub loop-digit-preserved : goal.loop-digit-preserved
loop-digit-preserved c =
    let ds = c.args.digits.now in
    let i = c.loop-digit.digit-index in
    let value = (digit (get_or ds i 0) (digit_at ds i c.requires c.loop-digit-test.true)).2 in
    let more : digits_value 10 (take (i + 1) ds) ≡ digits_value 10 (take i ds) * 10 + (get_or ds i 0 - 48) =
    digits_value_more 10 ds i c.loop-digit-test.true ∙ ap (λ v. digits_value 10 (take i ds) * 10 + v) value in
    search (rules, capped_digit _ _ _ _ c.loop-digit.invariant more)
