use Rattle.vap_policy_programs.proofs.types.versioned_type.Goals as goal

pub returns : goal.returns
returns c =
    c.object_of.ensures _
    (c.with_short.ensures _
    (c.with_short-fields-2.ensures _
    (c.with_short-fields.ensures _ c.new.ensures)))
