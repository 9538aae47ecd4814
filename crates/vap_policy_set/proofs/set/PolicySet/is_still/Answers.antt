use Rattle.vap_policy_set.proofs.StillBound.{policies_still}
use Rattle.vap_policy_set.proofs.set.PolicySet.is_still.Goals as goal

pub returns : goal.returns
returns c = λ is objects before.
    let missed = c.leaves_bound.ensures is in
    policies_still c.args.self.now c.args.events.now objects before missed.0 missed.1
