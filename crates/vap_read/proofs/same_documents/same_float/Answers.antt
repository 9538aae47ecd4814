use Rattle.std.proofs.Common.{T, subst, sym, ap, ◌∙◌, eqb-true, eq-eqb, to_bits}
use Rattle.std.specs.Float.{binary64}
use Rattle.vap_read.proofs.Floats.{same_by_bits}
use Rattle.vap_read.proofs.same_documents.same_float.Goals as goal

pub returns : goal.returns
returns c =
    let one = c.f64_to_bits_with_nan.ensures in
    let other = c.f64_to_bits_with_nan-2.ensures in
    let left = subst T (sym c.well_formed.0.1) tt in
    let right = subst T (sym c.well_formed.1.0.1) tt in (
      λ h. same_by_bits c.args.left c.args.right left right (sym one ∙ eqb-true _ _ h ∙ other),
      λ e. eq-eqb _ _ (one ∙ ap (to_bits binary64) e ∙ sym other),
    )
