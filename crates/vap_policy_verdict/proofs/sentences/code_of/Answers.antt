use Rattle.std.proofs.Common.{rules}
use Rattle.vap_policy_verdict.proofs.sentences.code_of.Goals as goal

pub returns-in-Unauthorized : goal.returns-in-Unauthorized
returns-in-Unauthorized c = search rules
