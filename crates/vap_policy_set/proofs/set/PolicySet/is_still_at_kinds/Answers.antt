use Rattle.std.proofs.Common.{sym, ◌∙◌}
use Rattle.vap_policy_set.proofs.StillBound.{policies_at}
use Rattle.vap_policy_set.proofs.set.PolicySet.is_still_at_kinds.Goals as goal

pub returns : goal.returns
returns c = λ is objects before.
    policies_at c.args.self.now c.args.events.now objects before (sym c.all_miss_definitions.ensures ∙ is)
