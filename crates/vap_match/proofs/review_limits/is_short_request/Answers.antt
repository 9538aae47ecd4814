use Rattle.std.proofs.Common.{rules}
use Rattle.vap_match.proofs.review_limits.is_short_request.Goals as goal

pub returns-then-is_short_text-5 : goal.returns-then-is_short_text-5
returns-then-is_short_text-5 c = search rules
