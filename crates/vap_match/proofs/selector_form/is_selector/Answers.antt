use Rattle.std.proofs.Common.{rules}
use Rattle.vap_match.proofs.selector_form.is_selector.Goals as goal

pub returns-then-may_have_named_texts : goal.returns-then-may_have_named_texts
returns-then-may_have_named_texts c = search rules
