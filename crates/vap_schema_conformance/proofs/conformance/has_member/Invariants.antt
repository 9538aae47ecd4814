use Rattle.std.proofs.Common.{◌≡◌, drop}
use Rattle.base_containers.specs.Gathered.{members_of}
use Rattle.vap_schema_conformance.specs.Conformance.{has_member}
use Rattle.vap_schema_conformance.proofs.conformance.has_member.Given as goal

abbrev pub invariant-loop-member : goal.invariant-loop-member
invariant-loop-member l = has_member l.name (members_of (drop l.member-index l.members)) ≡ has_member l.name (members_of l.members)
