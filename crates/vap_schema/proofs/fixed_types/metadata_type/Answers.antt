use Rattle.vap_schema.proofs.fixed_types.metadata_type.Goals as goal

pub returns : goal.returns
returns c = c.object_of.ensures _ c.metadata_fields.ensures
