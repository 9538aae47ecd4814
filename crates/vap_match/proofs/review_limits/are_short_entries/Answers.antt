use Rattle.base_containers.proofs.Gathers.{members_len-members_of}
use Rattle.vap_match.proofs.Counts.{within_limit, past_limit}
use Rattle.vap_match.proofs.review_limits.are_short_entries.Goals as goal

pub returns-then-members-le1024 : goal.returns-then-members-le1024
returns-then-members-le1024 c =
    within_limit _ _ _ _ (members_len-members_of c.args.members.now) c.if-members-le1024.true
    c.in_ok-all.ensures

pub returns-else-members-le1024 : goal.returns-else-members-le1024
returns-else-members-le1024 c =
    past_limit _ _ _ (members_len-members_of c.args.members.now) c.if-members-le1024.false
