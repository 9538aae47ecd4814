use Rattle.std.proofs.Common.{◌≡◌, ◌++◌, drop}
use Rattle.base_containers.specs.Gathered.{members_of}
use Rattle.vap_match.specs.RequestReading.{lists_under}
use Rattle.vap_match.proofs.review.lists_under.Given as goal

abbrev pub invariant-loop-member : goal.invariant-loop-member
invariant-loop-member l =
    l.lists.items ++ lists_under (members_of (drop l.member-index l.members)) ≡ lists_under (members_of l.members)
