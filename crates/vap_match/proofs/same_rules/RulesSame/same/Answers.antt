use Rattle.std.proofs.Common.{rules}
use Rattle.vap_match.proofs.same_rules.RulesSame.same.Goals as goal

pub returns-then-same-3 : goal.returns-then-same-3
returns-then-same-3 c = search rules
