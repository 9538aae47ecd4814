use Rattle.std.proofs.Common.{◌≡◌, ◌+◌, ◌-◌, ◌*◌, ◌^◌, length, min, Some, Ok, sym, ap, ◌∙◌, arith}
use Rattle.std.specs.Option.{option_map}
use Rattle.cel_value.specs.declared.value.Value as value
use Rattle.cel_value.specs.Value.{items_weight_of}
use Rattle.cel_operators.specs.Operators.{makes, tenths_in}
use Rattle.cel_operators_applied.proofs.Joins.{join_at}
use Rattle.cel_operators_applied.proofs.aggregates.joined_by.Goals as goal

pub returns-in-Some : goal.returns-in-Some
returns-in-Some c =
    let vs = c.args.parts.now in
    let s = c.args.separator.now in
    let times : length vs * (1 + c.tenths_in.result) ≡ length vs * (1 + tenths_in s) =
    ap (λ n. length vs * (1 + n)) c.tenths_in.ensures.exact in
    let charge : c.saturating_add-charge.result ≡ min (2 + items_weight_of vs + length vs * (1 + tenths_in s)) (2 ^ 64 - 1) =
    omega (arith, times) in
    c.made.ensures ∙ ap (makes (Some (Ok (value.Text c.in-Some.text)))) charge
    ∙ ap (λ o. makes (option_map (λ b. Ok (value.Text b)) o) (min (2 + items_weight_of vs + length vs * (1 + tenths_in s)) (2 ^ 64 - 1)))
    (sym c.in-Some.is ∙ c.in_ok-text.ensures.exact)
    ∙ join_at vs s
