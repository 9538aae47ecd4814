-- Histories may go to another thread, type by type: each search ends at what was shown before it.
use denote.Param.Send.{IsSend, IsSync, sendable}
use Rattle.base_containers.proofs.Crossing.{crosses, document_send, document_sync}
use Rattle.vap_policy_verdict.proofs.Crossing.{verdict_send, verdict_sync}
use Rattle.vap_watch.proofs.Crossing.{log_send, log_sync}
use Rattle.vap_match.specs.contracts.request.Admission as admission
use Rattle.vap_match.specs.contracts.request.Request as request
use Rattle.vap_audit.specs.contracts.entry.Entry as entry
use Rattle.vap_audit.specs.contracts.history.History as history

admission_send : IsSend admission.the_field.row
admission_send = search (document_send, document_sync, sendable, crosses) depth 60 fits 200000

admission_sync : IsSync admission.the_field.row
admission_sync = search (document_send, document_sync, sendable, crosses) depth 60 fits 200000

pub request_send : IsSend request.the_field.row
request_send = search (admission_send, admission_sync, sendable, crosses) depth 60 fits 200000

pub request_sync : IsSync request.the_field.row
request_sync = search (admission_send, admission_sync, sendable, crosses) depth 60 fits 200000

pub entry_send : IsSend entry.the_field.row
entry_send = search (log_send, log_sync, request_send, request_sync, verdict_send, verdict_sync, sendable, crosses) depth 60 fits 200000

pub entry_sync : IsSync entry.the_field.row
entry_sync = search (log_send, log_sync, request_send, request_sync, verdict_send, verdict_sync, sendable, crosses) depth 60 fits 200000

pub history_send : IsSend history.the_field.row
history_send = search (entry_send, entry_sync, sendable, crosses) depth 60 fits 200000

pub history_sync : IsSync history.the_field.row
history_sync = search (entry_send, entry_sync, sendable, crosses) depth 60 fits 200000
