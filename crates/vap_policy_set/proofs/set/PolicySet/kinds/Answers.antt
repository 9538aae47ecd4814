use Rattle.std.proofs.Common.{subst}
use Rattle.vap_policy_set.specs.Sets.{IsOfObjects}
use Rattle.vap_policy_set.proofs.set.PolicySet.kinds.Goals as goal

pub returns-clause-source : goal.returns-clause-source
returns-clause-source c = subst IsOfObjects c.self.view_is c.self.invariant.0
