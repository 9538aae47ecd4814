use Rattle.std.proofs.Common.{rules}
use Rattle.vap_match.proofs.label_selection.selects.Goals as goal

pub returns-then-has_all : goal.returns-then-has_all
returns-then-has_all c = search rules

pub returns-else-has_all : goal.returns-else-has_all
returns-else-has_all c = search rules
