use Rattle.std.proofs.Common.{rules}
use Rattle.vap_match.proofs.review_fault.ReviewFault.name.Goals as goal

pub returns-in-OverLimit : goal.returns-in-OverLimit
returns-in-OverLimit c = search rules
