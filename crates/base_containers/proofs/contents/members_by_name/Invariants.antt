use Rattle.std.proofs.Common.{◌≡◌, length, Some}
use Rattle.serde_json.specs.Data.{Members}
use Rattle.serde_json.specs.Find.{as_object}
use Rattle.base_containers.specs.Gathered.{members_of}
use Rattle.base_containers.specs.Parts.{data_of}
use Rattle.base_containers.proofs.Gathers.{MembersLeft}
use Rattle.base_containers.proofs.contents.members_by_name.Given as goal

abbrev pub invariant-loop-name : goal.invariant-loop-name
invariant-loop-name l =
    (all : Members) × MembersLeft l.members (members_of l.found.entries) all × (Some all ≡ as_object (data_of l.element))

abbrev pub decreases-loop-name : goal.decreases-loop-name
decreases-loop-name l = length l.members
