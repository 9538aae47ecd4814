use Rattle.std.proofs.Common.{◌≡◌, ◌<◌, ◌+◌, length, sym, ap, ◌∙◌, rules, tests}
use Rattle.std.specs.Option.{option_map}
use Rattle.cel_value.specs.Reading as spec
use Rattle.cel_value.specs.Views.{read, capped}
use Rattle.cel_value.proofs.Parts.{parts_none, parts_step, parts_end, no_part}
use Rattle.cel_value.proofs.reading.parts_spelled.Goals as goal

pub returns-in_err-part : goal.returns-in_err-part
returns-in_err-part c =
    let rest = c.loop-rest.rest.now in
    let some : 0 < length rest = search (rules, tests) in
    let none = parts_none rest some (no_part rest (sym c.part_spelled.ensures.exact ∙ ap read (c.in_err-part.was {u = tt}))) in
    c.from_residual.ensures ∙ sym (ap (option_map (λ n. capped (c.loop-rest.total + n))) none) ∙ c.loop-rest.invariant.0

pub loop-rest-preserved : goal.loop-rest-preserved
loop-rest-preserved c =
    let behind = c.in_ok-part.behind.now in
    let part = sym c.part_spelled.ensures.exact ∙ ap read (c.in_ok-part.was {u = tt}) in
    let step = parts_step c.loop-rest.rest.now c.loop-rest.total c.in_ok-part.part behind part in (
      ap (λ t. option_map (λ n. capped (t + n)) (spec.parts_spelled (length behind) behind)) c.saturating_add-total.ensures
          ∙ step ∙ c.loop-rest.invariant.0,
      c.saturating_add-total.type_inv,
    )

pub returns : goal.returns
returns c =
    let none : length c.loop-rest.rest.now ≡ 0 = search (rules, tests) in
    sym (parts_end c.loop-rest.rest.now c.loop-rest.total none c.loop-rest.invariant.1) ∙ c.loop-rest.invariant.0
