use Rattle.std.proofs.Common.{rules}
use Rattle.vap_match.proofs.labels.labels_of.Goals as goal

pub returns : goal.returns
returns c = search rules
