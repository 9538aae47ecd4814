-- Policies may go to another thread, type by type: each search ends at what was shown before it.
use denote.Param.Send.{IsSend, IsSync, sendable}
use Rattle.base_containers.proofs.Crossing.{crosses}
use Rattle.vap_read.specs.contracts.policy.PolicySpec as policy_spec
use Rattle.vap_read.specs.contracts.policy.Policy as policy

pub spec_send : IsSend policy_spec.the_field.row
spec_send = search (sendable, crosses) depth 60 fits 200000

pub spec_sync : IsSync policy_spec.the_field.row
spec_sync = search (sendable, crosses) depth 60 fits 200000

pub policy_send : IsSend policy.the_field.row
policy_send = search (spec_send, spec_sync, sendable, crosses) depth 60 fits 200000

pub policy_sync : IsSync policy.the_field.row
policy_sync = search (spec_send, spec_sync, sendable, crosses) depth 60 fits 200000
