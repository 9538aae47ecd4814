use Rattle.std.proofs.Common.{rules}
use Rattle.vap_policy_programs.proofs.held.old_outcome.Goals as goal

pub returns-clause-exact : goal.returns-clause-exact
returns-clause-exact c = search rules

pub returns-in-Ok-clause-exact : goal.returns-in-Ok-clause-exact
returns-in-Ok-clause-exact c = search rules
