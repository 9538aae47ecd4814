use Rattle.std.proofs.Common.{◌≡◌, [], sym, ap, rules, ◌∙◌}
use Rattle.std.specs.Prelude.{Ok, Err}
use Rattle.base_containers.specs.declared.failed.Failed.TheVariants.{Fault}
use Rattle.vap_cli.proofs.Only.{only_pattern}
use Rattle.vap_cli.proofs.Outcomes.{no_slots, runs_to}
use Rattle.vap_cli.proofs.evaluation.answer_of.Goals as goal

pub returns-in-Ok : goal.returns-in-Ok
returns-in-Ok c =
    let lent : c.as_slice.result.now ≡ [] = search rules in
    let made : c.as_slice-2.result.now ≡ [] = search rules in
    let none = no_slots _ _ _ _ c.new-slots.ensures lent made in
    λ may. runs_to _ _ _ _ _ none c.in-Ok.ensures.run c.in-Err.is

pub returns-in-Ok-outcome : goal.returns-in-Ok-outcome
returns-in-Ok-outcome c =
    let lent : c.as_slice.result.now ≡ [] = search rules in
    let made : c.as_slice-2.result.now ≡ [] = search rules in
    let none = no_slots _ _ _ _ c.new-slots.ensures lent made in
    λ may. runs_to _ _ _ _ _ none c.in-Ok.ensures.run (c.in-Ok-outcome.is ∙ ap Ok (sym c.in-Ok-outcome.value-is))

pub returns-in-Err-Fault-Pattern : goal.returns-in-Err-Fault-Pattern
returns-in-Err-Fault-Pattern c =
    let at = c.in-Err-Fault-Pattern in
    λ may. (may, at.ensures.pattern (ap Err (at.field-0-is ∙ ap Fault (only_pattern at.field-0-0))))
