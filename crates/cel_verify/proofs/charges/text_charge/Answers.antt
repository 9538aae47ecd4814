use Rattle.std.proofs.Common.{◌≡◌, ◌-◌, ◌^◌, Some, sym, ap, ◌∙◌}
use Rattle.std.specs.Prelude.{min, option_copied, reverse, slice_get}
use Rattle.cel_code.specs.Machine.{constant_text}
use Rattle.cel_verify.specs.Paths.{text_charge}
use Rattle.cel_verify.proofs.Operations.{charge_with}
use Rattle.cel_verify.proofs.charges.text_charge.Goals as goal

pub returns-in-Some : goal.returns-in-Some
returns-in-Some c =
    let text = c.in-Some.text.now in
    let types = reverse c.args.types.now in
    let there : constant_text (slice_get c.args.image.now.constants c.args.number) ≡ Some text =
    sym c.constant_text.ensures ∙ ap option_copied c.in-Some.is in
    c.charge_with.ensures
    ∙ ap (λ n. min n (2 ^ 64 - 1)) (charge_with c.args.op text types ∙ ap (λ o. text_charge c.args.op o types) (sym there))
