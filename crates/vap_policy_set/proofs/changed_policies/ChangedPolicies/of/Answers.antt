use Rattle.vap_policy_set.proofs.Changed.{next_missed}
use Rattle.vap_policy_set.proofs.changed_policies.ChangedPolicies.of.Goals as goal

pub loop-event-preserved : goal.loop-event-preserved
loop-event-preserved c =
    next_missed c.args.events.now c.loop-event.event-index c.event-item.result c.loop-event.changed c.add.new.self
    c.loop-event-test.true c.event-item.is c.loop-event.invariant c.in_ok-add.ensures
