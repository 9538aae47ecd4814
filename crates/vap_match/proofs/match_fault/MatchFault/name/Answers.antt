use Rattle.std.proofs.Common.{rules}
use Rattle.vap_match.proofs.match_fault.MatchFault.name.Goals as goal

pub returns-in-BadScope : goal.returns-in-BadScope
returns-in-BadScope c = search rules
