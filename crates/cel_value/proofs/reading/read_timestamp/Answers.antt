use Rattle.std.proofs.Common.{◌≡◌, ℕ, true, Some, None, List, sym, ap, ◌∙◌, arith, rules, tests, take, drop, length, ◌-◌, ap₂}
use Rattle.std.proofs.Common.{FitsSigned, to_z-of_z, w32}
use Rattle.std.specs.Option.{option_and_then}
use Rattle.cel_value.specs.Reading as spec
use Rattle.cel_value.specs.Views.{read}
use Rattle.cel_value.proofs.Stamps.{stamp, tail}
use Rattle.cel_value.proofs.reading.read_timestamp.Goals as goal

-- the fraction of what follows place 19 of some bytes, which are the text
fraction_behind : (bytes text : List ℕ) → bytes ≡ text
    → spec.fraction_spelled (take (length bytes - 19) (drop 19 bytes)) ≡ spec.fraction_spelled (drop 19 text)
fraction_behind bytes text e =
    ap (λ b. spec.fraction_spelled (take (length b - 19) (drop 19 b))) e ∙ ap spec.fraction_spelled (tail 19 text)

pub returns-in_err-fraction : goal.returns-in_err-fraction
returns-in_err-fraction c =
    let text = c.args.text.now in
    let separated : spec.is_separator (spec.at text 10) ≡ true = search (rules, tests) in
    let day : Some c.in_ok-day.day ≡ spec.day_spelled (take 10 text) = search (rules, tests) in
    let second : Some c.in_ok-second.second ≡ spec.second_spelled (take 8 (drop 11 text)) = search (rules, tests) in
    let none : None ≡ spec.fraction_spelled (drop 19 text) =
    ap read (sym (c.in_err-fraction.was {u = tt})) ∙ c.fraction_spelled.ensures.exact
    ∙ fraction_behind _ text c.as_bytes-bytes.ensures.value in
    c.from_residual-in_err-fraction.ensures ∙ stamp text (omega arith) separated _ _ None day second none

pub returns-in_err-offset : goal.returns-in_err-offset
returns-in_err-offset c =
    let text = c.args.text.now in
    let separated : spec.is_separator (spec.at text 10) ≡ true = search (rules, tests) in
    let day : Some c.in_ok-day.day ≡ spec.day_spelled (take 10 text) = search (rules, tests) in
    let second : Some c.in_ok-second.second ≡ spec.second_spelled (take 8 (drop 11 text)) = search (rules, tests) in
    let fraction : Some (c.in_ok-fraction.fraction, c.in_ok-fraction.rest.now) ≡ spec.fraction_spelled (drop 19 text) =
    ap read (sym (c.in_ok-fraction.was {u = tt})) ∙ c.fraction_spelled.ensures.exact
    ∙ fraction_behind _ text c.as_bytes-bytes.ensures.value in
    let none : None ≡ spec.offset_spelled c.in_ok-fraction.rest.now =
    sym (c.in_err-offset.was {u = tt}) ∙ c.offset_spelled.ensures.exact in
    c.from_residual-in_err-offset.ensures
    ∙ ap (option_and_then (λ ahead. spec.instant_at c.in_ok-day.day c.in_ok-second.second ahead c.in_ok-fraction.fraction)) none
    ∙ stamp text (omega arith) separated _ _ _ day second fraction

pub returns : goal.returns
returns c =
    let text = c.args.text.now in
    let separated : spec.is_separator (spec.at text 10) ≡ true = search (rules, tests) in
    let day : Some c.in_ok-day.day ≡ spec.day_spelled (take 10 text) = search (rules, tests) in
    let second : Some c.in_ok-second.second ≡ spec.second_spelled (take 8 (drop 11 text)) = search (rules, tests) in
    let fraction : Some (c.in_ok-fraction.fraction, c.in_ok-fraction.rest.now) ≡ spec.fraction_spelled (drop 19 text) =
    ap read (sym (c.in_ok-fraction.was {u = tt})) ∙ c.fraction_spelled.ensures.exact
    ∙ fraction_behind _ text c.as_bytes-bytes.ensures.value in
    let offset : Some c.in_ok-offset.offset ≡ spec.offset_spelled c.in_ok-fraction.rest.now =
    sym (c.in_ok-offset.was {u = tt}) ∙ c.offset_spelled.ensures.exact in
    let day_fits : FitsSigned w32 c.in_ok-day.day = search rules in
    let offset_fits : FitsSigned w32 c.in_ok-offset.offset = search rules in
    c.instant.ensures
    ∙ ap₂ (λ d ahead. spec.instant_at d c.in_ok-second.second ahead c.in_ok-fraction.fraction) (to_z-of_z day_fits) (to_z-of_z offset_fits)
    ∙ ap (option_and_then (λ ahead. spec.instant_at c.in_ok-day.day c.in_ok-second.second ahead c.in_ok-fraction.fraction)) offset
    ∙ stamp text (omega arith) separated _ _ _ day second fraction
