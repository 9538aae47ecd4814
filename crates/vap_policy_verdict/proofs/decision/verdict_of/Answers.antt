use Rattle.std.proofs.Common.{rules}
use Rattle.vap_policy_verdict.proofs.decision.verdict_of.Goals as goal

pub returns : goal.returns
returns c = search rules
