use Rattle.std.proofs.Common.{◌≡◌, suc, ◌-◌, ◌+◌, ◌/◌, ◌%◌, ◌∷◌, [], ◌++◌, sym, ap, ◌∙◌, arith, string_bytes}
use Rattle.cel_value.specs.Printed.{fraction_digits}
use Rattle.cel_value.proofs.Fractions.{put_step, put_end, one_digit, tenth, text_of_digits, nothing_left}
use lib.Utf8.{encode}
use Rattle.cel_value.proofs.printing.put_fraction.Goals as goal

pub nonzero_div-left : goal.nonzero_div-left
nonzero_div-left c =
    let next : 9 - c.places.counter ≡ suc (8 - c.places.counter) = omega arith in
    let place = tenth c.places.place _ _ next c.places.invariant.1 in
    (one_digit c.places.left _ _ _ next (omega arith) place).0

pub put_digit-requires : goal.put_digit-requires
put_digit-requires c =
    let next : 9 - c.places.counter ≡ suc (8 - c.places.counter) = omega arith in
    let place = tenth c.places.place _ _ next c.places.invariant.1 in
    (one_digit c.places.left _ _ _ next (omega arith) place).1

pub nonzero_rem-left : goal.nonzero_rem-left
nonzero_rem-left c =
    let next : 9 - c.places.counter ≡ suc (8 - c.places.counter) = omega arith in
    let place = tenth c.places.place _ _ next c.places.invariant.1 in
    (one_digit c.places.left _ _ _ next (omega arith) place).0

pub places-preserved : goal.places-preserved
places-preserved c =
    let next : 9 - c.places.counter ≡ suc (8 - c.places.counter) = omega arith in
    let less : 8 - c.places.counter ≡ 9 - (c.places.counter + 1) = omega arith in
    let place = tenth c.places.place _ _ next c.places.invariant.1 in
    let digit = one_digit c.places.left _ _ _ next (omega arith) place in
    let before = string_bytes c.places.text in
    let after = string_bytes c.put_digit.new.text in
    let whole = put_step _ before after _ _ c.places.left next c.if-left-eq0.false
    (c.in_ok-put_digit.ensures {u = tt} ∙ ap (λ p. before ++ (48 + c.places.left / p) ∷ []) place) c.places.invariant.0 in
    rw (← less) (ap (λ p. after ++ fraction_digits (8 - c.places.counter) (c.places.left % p)) place ∙ whole, place, digit.2)

pub returns-after-places : goal.returns-after-places
unfolding encode
returns-after-places c =
    let none : c.places.left ≡ 0 = nothing_left _ _ (9 - c.places.counter) (omega arith) c.places.invariant.1 c.places.invariant.2 in
    sym (put_end (string_bytes c.places.text) (9 - c.places.counter) c.places.left none) ∙ c.places.invariant.0
    ∙ text_of_digits _ _ _ (c.in_ok-push.ensures {u = tt}).bytes c.if-billionths-eq0.false

pub returns-then-left-eq0 : goal.returns-then-left-eq0
unfolding encode
returns-then-left-eq0 c =
    sym (put_end (string_bytes c.places.text) (9 - c.places.counter) c.places.left c.if-left-eq0.true) ∙ c.places.invariant.0
    ∙ text_of_digits _ _ _ (c.in_ok-push.ensures {u = tt}).bytes c.if-billionths-eq0.false
