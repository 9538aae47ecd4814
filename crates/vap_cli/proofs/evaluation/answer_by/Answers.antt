use Rattle.std.proofs.Common.{ap, ◌∙◌, subst}
use Rattle.base_containers.specs.declared.failed.Failed.TheVariants.{Fault}
use Rattle.std.specs.Prelude.{Err}
use Rattle.cel_expression.specs.Faulty.{IsUnverified}
use Rattle.vap_cli.specs.Evaluation.{source_of}
use Rattle.vap_cli.proofs.Only.{place_of, only_unverified}
use Rattle.vap_cli.proofs.Outcomes.{answers_by}
use Rattle.vap_cli.proofs.evaluation.answer_by.Goals as goal

pub returns-in-Ok-Ok : goal.returns-in-Ok-Ok
returns-in-Ok-Ok c =
    let is = rw c.in-Ok-Ok.field-0-is at c.in-Ok-Ok.ensures.itself in
    let may = rw c.in-Ok-Ok.field-0-is at c.in-Ok-Ok.ensures.compiled in
    answers_by _ _ _ _ _ c.requires is may c.answer_of.ensures

pub returns-in-Err-Fault-Unverified : goal.returns-in-Err-Fault-Unverified
returns-in-Err-Fault-Unverified c =
    let arm = c.in-Err-Fault-Unverified in
    let at = place_of arm.field-0-0 in
    let is = arm.field-0-is ∙ ap Fault (only_unverified arm.field-0-0) in
    let faulty = arm.ensures.unverified at (ap Err is) in
    rw (is)
    (subst (λ names. IsUnverified (record { choice = c.args.choice.now; names = names; text = c.args.text.now }) at) c.requires faulty)
