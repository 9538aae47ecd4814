use Rattle.std.proofs.Common.{refl}
use Rattle.vap_policy_programs.proofs.types.asked_fields.Goals as goal

pub returns : goal.returns
returns c =
    c.with_required.ensures _ _
    (c.with_required-fields.ensures _ _
    (c.with_short-fields-3.ensures _
    (c.with_short-fields-2.ensures _
    (c.with_short-fields.ensures _ c.new.ensures))) refl)
    refl
