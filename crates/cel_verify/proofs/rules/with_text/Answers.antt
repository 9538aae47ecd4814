use Rattle.std.proofs.Common.{◌≡◌, Some, sym, ap, ◌∙◌, subst}
use Rattle.std.specs.Prelude.{option_copied, slice_get}
use Rattle.cel_code.specs.Machine.{constant_text}
use Rattle.cel_verify.specs.Sound.{text_rule}
use Rattle.cel_verify.specs.Walked.{Follows}
use Rattle.cel_verify.proofs.Operations.{rule_with}
use Rattle.cel_verify.proofs.rules.with_text.Goals as goal

pub returns-in-Some : goal.returns-in-Some
returns-in-Some c =
    let text = c.in-Some.text.now in
    let there : constant_text (slice_get c.args.image.now.constants c.args.number) ≡ Some text =
    sym c.constant_text.ensures ∙ ap option_copied c.in-Some.is in
    subst (Follows c.operation_with.result)
    (rule_with c.args.op text c.args.types ∙ ap (λ o. text_rule c.args.op o c.args.types) (sym there))
    c.operation_with.ensures
