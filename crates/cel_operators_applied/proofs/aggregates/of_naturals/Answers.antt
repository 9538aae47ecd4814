use Rattle.std.proofs.Common.{◌≡◌, ◌+◌, ◌-◌, ◌^◌, length, min, max, sum, true, false, Some, Ok, sym, ap, ◌∙◌, if◌then◌else◌}
use Rattle.cel_value.specs.declared.value.Value as value
use Rattle.cel_operators.specs.Operators.{row, at_one, makes, extreme_of, lesser_int, greater_int, sum_of_ints, int_or_overflow}
use Rattle.cel_operators.specs.Operators.{uint_or_overflow}
use Rattle.cel_operators_applied.specs.Counted.{counted}
use Rattle.cel_operators_applied.proofs.Folds.{naturals_made}
use Rattle.cel_operators_applied.proofs.aggregates.of_naturals.Goals as goal

pub returns-in-SumUints : goal.returns-in-SumUints
returns-in-SumUints c =
    let vs = c.args.items.now in
    c.made_of.ensures ∙ ap (λ f. makes f (min (1 + length vs) (2 ^ 64 - 1))) c.sum_of_naturals.ensures
    ∙ naturals_made (λ ns. uint_or_overflow (sum ns)) vs
    ∙ ap (λ p. counted (at_one (row p) (Some (Ok (value.List vs))))) (sym c.in-SumUints.is)

pub returns-in-MinUints : goal.returns-in-MinUints
returns-in-MinUints c =
    let vs = c.args.items.now in
    c.made_of-in-MinUints.ensures ∙ ap (λ f. makes f (min (1 + length vs) (2 ^ 64 - 1))) c.extreme_of_naturals.ensures
    ∙ naturals_made (extreme_of min value.Uint) vs
    ∙ ap (λ p. counted (at_one (row p) (Some (Ok (value.List vs))))) (sym c.in-MinUints.is)

pub returns-in-MaxUints : goal.returns-in-MaxUints
returns-in-MaxUints c =
    let vs = c.args.items.now in
    c.made_of-in-MaxUints.ensures ∙ ap (λ f. makes f (min (1 + length vs) (2 ^ 64 - 1))) c.extreme_of_naturals-in-MaxUints.ensures
    ∙ naturals_made (extreme_of max value.Uint) vs
    ∙ ap (λ p. counted (at_one (row p) (Some (Ok (value.List vs))))) (sym c.in-MaxUints.is)
