use Rattle.vap_policy_programs.proofs.types.request_type.Goals as goal

pub returns : goal.returns
returns c =
    c.object_of.ensures _
    (c.with_required.ensures _ _
    (c.with_required-fields-2.ensures _ _
    (c.with_required-fields.ensures _ _ c.asked_fields.ensures c.versioned_type-kind.ensures) c.versioned_type-resource.ensures)
    c.user_type.ensures)
