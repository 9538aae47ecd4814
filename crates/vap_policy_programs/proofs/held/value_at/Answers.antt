use Rattle.std.proofs.Common.{rules}
use Rattle.vap_policy_programs.proofs.held.value_at.Goals as goal

pub returns-in-None-clause-exact : goal.returns-in-None-clause-exact
returns-in-None-clause-exact c = search rules
