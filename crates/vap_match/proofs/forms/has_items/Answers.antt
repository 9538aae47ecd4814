use Rattle.vap_match.proofs.SomeItems.{some_there}
use Rattle.vap_match.proofs.forms.has_items.Goals as goal

pub returns-in-len1-up : goal.returns-in-len1-up
returns-in-len1-up c = some_there c.args.items.now c.in-len1-up.len_at_least
