use Rattle.std.proofs.Common.{rules}
use Rattle.vap_match.proofs.selection.selects_document.Goals as goal

pub returns-in-None : goal.returns-in-None
returns-in-None c = search rules
