use Rattle.std.proofs.Common.{rules}
use Rattle.vap_match.proofs.forms.has_text.Goals as goal

pub returns-in-None : goal.returns-in-None
returns-in-None c = search rules
