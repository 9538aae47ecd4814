-- Programs may go to another thread.
use denote.Param.Send.{IsSend, IsSync, sendable}
use Rattle.std.proofs.Crossing.{crosses}
use Rattle.cel_code.proofs.Crossing.{image_send, image_sync}
use Rattle.cel_verify.specs.contracts.program.Program as program

pub program_send : IsSend program.the_field.row
program_send = search (image_send, image_sync, sendable, crosses) depth 60 fits 200000

pub program_sync : IsSync program.the_field.row
program_sync = search (image_send, image_sync, sendable, crosses) depth 60 fits 200000
