use Rattle.std.proofs.Common.{take}
use Rattle.vap_policy_set.specs.Changed.{MissOthers}
use Rattle.vap_policy_set.proofs.changed_policies.ChangedPolicies.of.Given as goal

abbrev pub invariant-loop-event : goal.invariant-loop-event
invariant-loop-event l = MissOthers l.changed (take l.event-index l.events)
