-- Texts and documents may go to another thread, and what of that a `search` above takes as known.
use denote.Param.Send.{IsSend, IsSync, sendable}
use Rattle.std.proofs.Crossing as below
use Rattle.base_containers.specs.contracts.document.Document as document
use Rattle.base_containers.specs.contracts.text.Text as text

pub text_send : IsSend text.the_field.row
text_send = search (sendable, below.crosses) depth 60 fits 200000

pub text_sync : IsSync text.the_field.row
text_sync = search (sendable, below.crosses) depth 60 fits 200000

pub ruleset crosses = (text_send, text_sync, below.crosses)

pub document_send : IsSend document.the_field.row
document_send = search (sendable, below.crosses) depth 60 fits 200000

pub document_sync : IsSync document.the_field.row
document_sync = search (sendable, below.crosses) depth 60 fits 200000
