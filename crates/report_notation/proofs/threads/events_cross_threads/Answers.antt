use denote.Param.Send.{sendable}
use Rattle.vap_read.proofs.Crossing.{event_send, event_sync}
use Rattle.report_notation.proofs.threads.events_cross_threads.Goals as goal

pub crosses_threads-requires-send-T : goal.crosses_threads-requires-send-T
crosses_threads-requires-send-T g c κs = search (event_send, sendable)

pub crosses_threads-requires-sync-T : goal.crosses_threads-requires-sync-T
crosses_threads-requires-sync-T g c κs = search (event_sync, sendable)
