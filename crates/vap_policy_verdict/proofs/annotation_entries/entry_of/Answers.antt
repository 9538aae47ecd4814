use Rattle.std.proofs.Common.{rules}
use Rattle.vap_policy_verdict.proofs.annotation_entries.entry_of.Goals as goal

pub returns : goal.returns
returns c = search rules
