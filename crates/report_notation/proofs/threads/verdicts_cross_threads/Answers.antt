use denote.Param.Send.{sendable}
use Rattle.vap_policy_verdict.proofs.Crossing.{verdict_send, verdict_sync}
use Rattle.report_notation.proofs.threads.verdicts_cross_threads.Goals as goal

pub crosses_threads-requires-send-T : goal.crosses_threads-requires-send-T
crosses_threads-requires-send-T g c κs = search (verdict_send, sendable)

pub crosses_threads-requires-sync-T : goal.crosses_threads-requires-sync-T
crosses_threads-requires-sync-T g c κs = search (verdict_sync, sendable)
