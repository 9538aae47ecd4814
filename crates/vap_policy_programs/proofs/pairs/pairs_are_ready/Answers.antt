use Rattle.vap_policy_programs.proofs.Standing.{pair_ready, pair_within}
use Rattle.vap_policy_programs.proofs.pairs.pairs_are_ready.Goals as goal

pub returns-clause-ready : goal.returns-clause-ready
returns-clause-ready c = pair_ready

pub returns-clause-within : goal.returns-clause-within
returns-clause-within c = pair_within
