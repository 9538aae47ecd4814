-- Images may go to another thread, type by type: each search ends at what was shown before it.
use denote.Param.Send.{IsSend, IsSync, sendable}
use Rattle.std.proofs.Crossing.{crosses}
use Rattle.cel_value.proofs.Crossing.{type_send, type_sync, value_send, value_sync}
use Rattle.cel_code.specs.contracts.instr.Instr as instr
use Rattle.cel_code.specs.contracts.image.Target as target
use Rattle.cel_code.specs.contracts.image.Image as image

instr_send : IsSend instr.the_field.row
instr_send = search (type_send, type_sync, sendable, crosses) depth 60 fits 200000

instr_sync : IsSync instr.the_field.row
instr_sync = search (type_send, type_sync, sendable, crosses) depth 60 fits 200000

target_send : IsSend target.the_field.row
target_send = search (type_send, type_sync, sendable, crosses) depth 60 fits 200000

target_sync : IsSync target.the_field.row
target_sync = search (type_send, type_sync, sendable, crosses) depth 60 fits 200000

pub image_send : IsSend image.the_field.row
image_send =
    search (type_send, type_sync, value_send, value_sync, instr_send, instr_sync, target_send, target_sync, sendable, crosses)
    depth 60 fits 200000

pub image_sync : IsSync image.the_field.row
image_sync =
    search (type_send, type_sync, value_send, value_sync, instr_send, instr_sync, target_send, target_sync, sendable, crosses)
    depth 60 fits 200000
