use Rattle.std.proofs.Common.{arith}
use Rattle.std.proofs.lemmas.Grind.{common_steps}
use Rattle.vap_policy_verdict.proofs.decision.first_denial.Goals as goal

pub returns-then-finding : goal.returns-then-finding
returns-then-finding c = grind (arith, common_steps)
