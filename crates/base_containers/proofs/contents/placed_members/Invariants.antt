use Rattle.std.proofs.Common.{◌≡◌, length, Some}
use Rattle.serde_json.specs.Data.{Members}
use Rattle.serde_json.specs.Find.{as_object}
use Rattle.base_containers.specs.Gathered.{members_of, AreInOrder}
use Rattle.base_containers.specs.Parts.{data_of}
use Rattle.base_containers.proofs.Gathers.{MembersLeft}
use Rattle.base_containers.proofs.contents.placed_members.Given as goal

abbrev pub invariant-loop-name : goal.invariant-loop-name
invariant-loop-name l = record {
  left : (all : Members) × MembersLeft l.members (members_of l.found.items) all × (Some all ≡ as_object (data_of l.element));
  ordered : AreInOrder l.found.items;
}

abbrev pub decreases-loop-name : goal.decreases-loop-name
decreases-loop-name l = length l.members
