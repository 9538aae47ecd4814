use Rattle.vap_policy_set.proofs.Changed.{told_kept}
use Rattle.vap_policy_set.proofs.set.PolicySet.changed_policies.Goals as goal

pub returns : goal.returns
returns c = told_kept c.of.result c.args.self.now c.args.events.now c.of.ensures
