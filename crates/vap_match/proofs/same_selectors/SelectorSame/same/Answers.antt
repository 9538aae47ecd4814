use Rattle.std.proofs.Common.{rules}
use Rattle.vap_match.proofs.same_selectors.SelectorSame.same.Goals as goal

pub returns-then-same : goal.returns-then-same
returns-then-same c = search rules
