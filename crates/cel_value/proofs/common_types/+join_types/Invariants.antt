use Rattle.std.proofs.Common.{◌≡◌, ◌++◌, drop}
use Rattle.std.specs.Option.{option_map}
use Rattle.base_containers.specs.Keys.{keys_in}
use Rattle.cel_value.specs.JoinRules.{joined_fields}
use Rattle.cel_value.proofs.common_types.+join_types.Given as goal

abbrev pub invariant-join_fields-loop-field : goal.invariant-join_fields-loop-field
invariant-join_fields-loop-field l = record {
  rest : option_map (λ more. l.joined.items ++ more) (joined_fields (drop l.field-index l.fields) l.rest)
      ≡ joined_fields l.fields l.initial.rest;
  keys : keys_in l.joined.items ++ keys_in (drop l.field-index l.fields) ≡ keys_in l.fields;
}
