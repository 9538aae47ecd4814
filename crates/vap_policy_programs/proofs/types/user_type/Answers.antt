use Rattle.std.proofs.Common.{refl}
use Rattle.vap_policy_programs.proofs.types.user_type.Goals as goal

pub returns : goal.returns
returns c =
    c.object_of.ensures _
    (c.with_required.ensures _ _
    (c.with_required-fields-3.ensures _ _
    (c.with_required-fields-2.ensures _ _
    (c.with_required-fields.ensures _ _ c.new.ensures refl) refl) c.texts_type.ensures)
    c.extra_type.ensures)
