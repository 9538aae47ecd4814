use Rattle.std.proofs.Common.{◌≡◌, ◌+◌, ◌-◌, ◌*◌, ◌^◌, min, ap, ◌∙◌, arith}
use Rattle.cel_value.proofs.Capped.{min-mul}
use Rattle.cel_estimate.proofs.measure.rounds.Goals as goal

pub returns : goal.returns
returns c = λ most h.
    let turn : c.saturating_add-turn.result ≡ min (1 + most) (2 ^ 64 - 1) = omega (arith, c.saturating_add-turn.ensures, h) in
    c.saturating_mul.ensures
    ∙ ap (λ n. min (n * c.from.result) (2 ^ 64 - 1)) turn
    ∙ min-mul c.from.result (1 + most) (2 ^ 64 - 1)
    ∙ ap (λ n. min (n * (1 + most)) (2 ^ 64 - 1)) (c.from.ensures ∙ c.range_max.ensures)
