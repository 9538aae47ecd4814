use Rattle.std.proofs.Common.{◌≡◌, drop}
use Rattle.base_containers.specs.Gathered.{members_of}
use Rattle.vap_schema_conformance.specs.Conformance.{has_required}
use Rattle.vap_schema_conformance.proofs.conformance.has_required.Given as goal

abbrev pub invariant-loop-field : goal.invariant-loop-field
invariant-loop-field l = has_required (drop l.field-index l.fields) (members_of l.members) ≡ has_required l.fields (members_of l.members)
