use Rattle.std.proofs.Common.{rules}
use Rattle.vap_match.proofs.label_selection.meets.Goals as goal

pub returns-in-Exists : goal.returns-in-Exists
returns-in-Exists c = search rules
