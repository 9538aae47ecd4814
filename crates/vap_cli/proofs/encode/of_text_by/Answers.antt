use Rattle.std.proofs.Common.{sym, subst}
use Rattle.cel_expression.specs.Images.{IsImageOf}
use Rattle.vap_cli.proofs.Spelt.{is_encoded, none_encoded}
use Rattle.vap_cli.proofs.encode.of_text_by.Goals as goal

pub returns-in-Ok-Ok : goal.returns-in-Ok-Ok
returns-in-Ok-Ok c =
    let is = rw c.in-Ok-Ok.field-0-is at c.in-Ok-Ok.ensures.itself in
    let compiled = subst (λ p. IsImageOf c.in-Ok-Ok.compiled p) (sym c.image.ensures.image) c.program.ensures.image in
    is_encoded _ _ _ _ _ c.of_image.result c.requires is compiled c.of_image.ensures

pub returns-in-Ok-Err : goal.returns-in-Ok-Err
returns-in-Ok-Err c = none_encoded c.args.text.now c.refused.result c.refused.ensures
