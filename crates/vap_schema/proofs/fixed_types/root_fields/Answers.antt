use Rattle.std.proofs.Common.{refl}
use Rattle.vap_schema.proofs.fixed_types.root_fields.Goals as goal

pub returns : goal.returns
returns c =
    c.with_optional.ensures _ _
    (c.with_optional-all-2.ensures _ _
    (c.with_optional-all.ensures _ _ c.copy_fields.ensures c.metadata_type-metadata.ensures) refl)
    refl
