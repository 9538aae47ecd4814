use Rattle.vap_policy_verdict.specs.Failures.{action_members}
use Rattle.vap_policy_verdict.proofs.decision_failures.put_actions.Goals as goal

pub returns-clause-ok : goal.returns-clause-ok
unfolding action_members
returns-clause-ok c = c.put_action_member.ensures.ok
