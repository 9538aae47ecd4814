use Rattle.std.proofs.Common.{rules}
use Rattle.vap_match.proofs.selector_form.selector_of.Goals as goal

pub returns : goal.returns
returns c = search rules
