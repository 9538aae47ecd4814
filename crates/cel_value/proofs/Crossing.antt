-- Types and values may go to another thread.
use denote.Param.Send.{IsSend, IsSync, sendable}
use Rattle.std.proofs.Crossing.{crosses}
use Rattle.cel_value.proofs.cel_type.CelType.TheLaws.TheKnot.{both_send-CelType, both_sync-CelType}
use Rattle.cel_value.proofs.value.Value.TheLaws.TheKnot.{both_send-Value, both_sync-Value}
use Rattle.cel_value.specs.contracts.cel_type.CelType as cel_type
use Rattle.cel_value.specs.contracts.value.Value as value

pub type_send : IsSend cel_type.the_field.row
type_send = search (both_send-CelType, sendable, crosses) depth 60 fits 200000

pub type_sync : IsSync cel_type.the_field.row
type_sync = search (both_sync-CelType, sendable, crosses) depth 60 fits 200000

pub value_send : IsSend value.the_field.row
value_send = search (both_send-Value, sendable, crosses) depth 60 fits 200000

pub value_sync : IsSync value.the_field.row
value_sync = search (both_sync-Value, sendable, crosses) depth 60 fits 200000
