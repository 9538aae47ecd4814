use Rattle.base_containers.proofs.Gathers.{items_len-items_of}
use Rattle.vap_match.proofs.Counts.{within_limit, past_limit}
use Rattle.vap_match.proofs.review_limits.are_short.Goals as goal

pub returns-then-items-le1024 : goal.returns-then-items-le1024
returns-then-items-le1024 c =
    within_limit _ _ _ _ (items_len-items_of c.args.items.now) c.if-items-le1024.true c.each_is_short.ensures

pub returns-else-items-le1024 : goal.returns-else-items-le1024
returns-else-items-le1024 c = past_limit _ _ _ (items_len-items_of c.args.items.now) c.if-items-le1024.false
