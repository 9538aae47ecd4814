use Rattle.std.proofs.Common.{subst}
use Rattle.vap_policy_set.specs.Sets.{IsOfObjects}
use Rattle.vap_policy_set.proofs.Named.{set_whole}
use Rattle.vap_policy_set.proofs.Standing.{set_ready}
use Rattle.vap_policy_set.proofs.set.PolicySet.policies.Goals as goal

pub returns-clause-ready : goal.returns-clause-ready
returns-clause-ready c =
    set_ready c.pairs_are_ready.ensures.ready c.pairs_are_ready.ensures.within c.args.self.now
    (subst IsOfObjects c.self.view_is c.self.invariant.0)

pub returns-clause-whole : goal.returns-clause-whole
returns-clause-whole c = set_whole c.args.self.now (subst IsOfObjects c.self.view_is c.self.invariant.0)
