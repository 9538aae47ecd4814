use Rattle.std.proofs.Common.{rules}
use Rattle.vap_match.proofs.selection.matches.Goals as goal

pub returns-then-selects_namespace : goal.returns-then-selects_namespace
returns-then-selects_namespace c = search rules
