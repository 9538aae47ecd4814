-- Compiled expressions may go to another thread.
use denote.Param.Send.{IsSend, IsSync, sendable}
use Rattle.base_containers.proofs.Crossing.{crosses}
use Rattle.cel_value.proofs.Crossing.{type_send, type_sync}
use Rattle.cel_verify.proofs.Crossing.{program_send, program_sync}
use Rattle.cel_expression.specs.contracts.compiled.Compiled as compiled

pub compiled_send : IsSend compiled.the_field.row
compiled_send = search (type_send, type_sync, program_send, program_sync, sendable, crosses) depth 60 fits 200000

pub compiled_sync : IsSync compiled.the_field.row
compiled_sync = search (type_send, type_sync, program_send, program_sync, sendable, crosses) depth 60 fits 200000
