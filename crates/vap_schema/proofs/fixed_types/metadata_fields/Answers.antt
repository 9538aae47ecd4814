use Rattle.std.proofs.Common.{refl}
use Rattle.vap_schema.proofs.fixed_types.metadata_fields.Goals as goal

pub returns : goal.returns
returns c =
    c.with_optional.ensures _ _
    (c.with_optional-fields-6.ensures _ _
    (c.with_optional-fields-5.ensures _ _
    (c.with_optional-fields-4.ensures _ _
    (c.with_optional-fields-3.ensures _ _
    (c.with_optional-fields-2.ensures _ _
    (c.with_optional-fields.ensures _ _ c.new.ensures refl) c.texts.ensures) c.texts-2.ensures) refl) refl) refl)
    refl
