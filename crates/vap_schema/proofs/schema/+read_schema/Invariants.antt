use Rattle.std.proofs.Common.{◌≡◌, ◌+◌, ◌*◌}
use Rattle.serde_json.specs.View.{members_view}
use Rattle.vap_schema.specs.Schemas.{schema_type, fields_of, is_named}
use Rattle.vap_schema.proofs.Rest.{behind}
use Rattle.vap_schema.proofs.schema.+read_schema.Given as goal

abbrev pub invariant-read_fields-loop-name : goal.invariant-read_fields-loop-name
invariant-read_fields-loop-name l = record {
  can_next : (goal.iterator-read_fields-loop-name).can_next l.name-iterator;
  is_finite : (goal.iterator-read_fields-loop-name).is_finite l.name-iterator;
  exact : fields_of (schema_type l.levels) (λ k. is_named k l.required) (members_view l.properties.entries)
      ≡ behind l.fields.items (fields_of (schema_type l.levels) (λ k. is_named k l.required) (members_view l.name-iterator));
}

-- of two calls at one level, the one that is called is nearer to the schema inside
abbrev pub decreases-read_schema : goal.decreases-read_schema
decreases-read_schema l = 4 * l.levels

abbrev pub decreases-read_form : goal.decreases-read_form
decreases-read_form l = 4 * l.levels + 3

abbrev pub decreases-read_entry : goal.decreases-read_entry
decreases-read_entry l = 4 * l.levels + 1

abbrev pub decreases-read_record : goal.decreases-read_record
decreases-read_record l = 4 * l.levels + 2

abbrev pub decreases-read_fields : goal.decreases-read_fields
decreases-read_fields l = 4 * l.levels + 1
