use Rattle.std.proofs.Common.{◌≡◌, ◌↔◌, drop}
use Rattle.cel_value.proofs.same_types.+same_type.Given as goal

-- the fields are the same if those that are left are
abbrev pub invariant-same_fields-loop-field : goal.invariant-same_fields-loop-field
invariant-same_fields-loop-field l = (l.left ≡ l.right) ↔ (drop l.field-index l.left ≡ l.rest)
