use denote.Param.Send.{sendable}
use Rattle.std.proofs.Crossing.{crosses}
use Rattle.vap_watch.proofs.Crossing.{reader_send}
use Rattle.worker_calls.proofs.readers.keep_beside.Goals as goal

-- a reader goes to the thread that keeps what it saw
pub join-kept-requires-send-F : goal.join-kept-requires-send-F
join-kept-requires-send-F g c κs within = search (reader_send, sendable, crosses) depth 60 fits 200000
