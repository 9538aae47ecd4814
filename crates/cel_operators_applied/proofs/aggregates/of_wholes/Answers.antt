use Rattle.std.proofs.Common.{◌≡◌, ◌+◌, ◌-◌, ◌^◌, length, min, max, sum, true, false, Some, Ok, sym, ap, ◌∙◌, if◌then◌else◌}
use Rattle.cel_value.specs.declared.value.Value as value
use Rattle.cel_operators.specs.Operators.{row, at_one, makes, extreme_of, lesser_int, greater_int, sum_of_ints, int_or_overflow}
use Rattle.cel_operators.specs.Operators.{uint_or_overflow}
use Rattle.cel_operators_applied.specs.Counted.{counted}
use Rattle.cel_operators_applied.proofs.Folds.{wholes_made}
use Rattle.cel_operators_applied.proofs.aggregates.of_wholes.Goals as goal

pub returns-in-SumInts : goal.returns-in-SumInts
returns-in-SumInts c =
    let vs = c.args.items.now in
    c.made_of.ensures ∙ ap (λ f. makes f (min (1 + length vs) (2 ^ 64 - 1))) c.sum_of_wholes.ensures
    ∙ wholes_made (λ ns. int_or_overflow (sum_of_ints ns)) vs
    ∙ ap (λ p. counted (at_one (row p) (Some (Ok (value.List vs))))) (sym c.in-SumInts.is)

pub returns-in-MinInts : goal.returns-in-MinInts
returns-in-MinInts c =
    let vs = c.args.items.now in
    c.made_of-in-MinInts.ensures ∙ ap (λ f. makes f (min (1 + length vs) (2 ^ 64 - 1))) c.extreme_of_wholes.ensures
    ∙ wholes_made (extreme_of lesser_int value.Int) vs
    ∙ ap (λ p. counted (at_one (row p) (Some (Ok (value.List vs))))) (sym c.in-MinInts.is)

pub returns-in-MaxInts : goal.returns-in-MaxInts
returns-in-MaxInts c =
    let vs = c.args.items.now in
    c.made_of-in-MaxInts.ensures ∙ ap (λ f. makes f (min (1 + length vs) (2 ^ 64 - 1))) c.extreme_of_wholes-in-MaxInts.ensures
    ∙ wholes_made (extreme_of greater_int value.Int) vs
    ∙ ap (λ p. counted (at_one (row p) (Some (Ok (value.List vs))))) (sym c.in-MaxInts.is)
