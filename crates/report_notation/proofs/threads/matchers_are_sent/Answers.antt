use denote.Param.Send.{sendable}
use Rattle.cel_operators.proofs.Crossing.{matchers_send}
use Rattle.report_notation.proofs.threads.matchers_are_sent.Goals as goal

pub is_sent-requires-send-T : goal.is_sent-requires-send-T
is_sent-requires-send-T c κs = search (matchers_send, sendable)
