use Rattle.std.proofs.Common.{◌≡◌, ◌+◌, ◌*◌}
use Rattle.serde_json.specs.View.{members_view}
use Rattle.vap_schema.specs.Places.{schema_place, members_place}
use Rattle.vap_schema.proofs.place.+place_in.Given as goal

-- no property so far has a fault
abbrev pub invariant-place_among-loop-name : goal.invariant-place_among-loop-name
invariant-place_among-loop-name l = record {
  can_next : (goal.iterator-place_among-loop-name).can_next l.name-iterator;
  is_finite : (goal.iterator-place_among-loop-name).is_finite l.name-iterator;
  exact : members_place (schema_place l.levels) (members_view l.properties.entries)
      ≡ members_place (schema_place l.levels) (members_view l.name-iterator);
}

-- of two calls at one level, the one that is called is nearer to the schema inside
abbrev pub decreases-place_in : goal.decreases-place_in
decreases-place_in l = 4 * l.levels

abbrev pub decreases-place_in_form : goal.decreases-place_in_form
decreases-place_in_form l = 4 * l.levels + 2

abbrev pub decreases-place_in_entry : goal.decreases-place_in_entry
decreases-place_in_entry l = 4 * l.levels + 1

abbrev pub decreases-place_among : goal.decreases-place_among
decreases-place_among l = 4 * l.levels + 1
