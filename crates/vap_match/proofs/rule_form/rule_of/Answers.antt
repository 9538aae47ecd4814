use Rattle.std.proofs.Common.{rules}
use Rattle.vap_match.proofs.rule_form.rule_of.Goals as goal

pub returns : goal.returns
returns c = search rules
