-- The types of names may go to another thread.
use denote.Param.Send.{IsSend, IsSync, sendable}
use Rattle.base_containers.proofs.Crossing.{crosses}
use Rattle.cel_value.proofs.Crossing.{type_send, type_sync}
use Rattle.vap_policy_programs.specs.contracts.fixed_types.FixedTypes as fixed_types

pub fixed_send : IsSend fixed_types.the_field.row
fixed_send = search (type_send, type_sync, sendable, crosses) depth 60 fits 200000

pub fixed_sync : IsSync fixed_types.the_field.row
fixed_sync = search (type_send, type_sync, sendable, crosses) depth 60 fits 200000
