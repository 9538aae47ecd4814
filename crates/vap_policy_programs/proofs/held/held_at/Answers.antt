use Rattle.std.proofs.Common.{rules}
use Rattle.vap_policy_programs.proofs.held.held_at.Goals as goal

pub returns-in_ok-namespace_value-in-Ok-clause-exact : goal.returns-in_ok-namespace_value-in-Ok-clause-exact
returns-in_ok-namespace_value-in-Ok-clause-exact c = search rules

pub returns-in-Err-clause-exact : goal.returns-in-Err-clause-exact
returns-in-Err-clause-exact c = search rules
