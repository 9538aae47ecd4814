use Rattle.std.proofs.Common.{rules}
use Rattle.vap_match.proofs.coverage.covers.Goals as goal

pub returns-then-is_covered : goal.returns-then-is_covered
returns-then-is_covered c = search rules
