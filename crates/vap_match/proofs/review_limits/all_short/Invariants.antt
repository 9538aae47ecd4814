use Rattle.std.proofs.Common.{◌≡◌, drop}
use Rattle.base_containers.specs.Gathered.{members_of}
use Rattle.vap_match.specs.ReviewLimits.{all_short}
use Rattle.vap_match.proofs.review_limits.all_short.Given as goal

abbrev pub invariant-loop-member : goal.invariant-loop-member
invariant-loop-member l = all_short (members_of (drop l.member-index l.members)) ≡ all_short (members_of l.members)
