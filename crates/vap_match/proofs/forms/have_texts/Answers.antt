use Rattle.std.proofs.Common.{rules}
use Rattle.vap_match.proofs.forms.have_texts.Goals as goal

pub loop-member-preserved : goal.loop-member-preserved
loop-member-preserved c = search rules
