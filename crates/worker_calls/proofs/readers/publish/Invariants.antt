use Rattle.std.proofs.Common.{◌≡◌}
use Rattle.worker_calls.proofs.readers.publish.Given as goal

abbrev pub invariant-loop-event : goal.invariant-loop-event
invariant-loop-event g l = l.writer.board ≡ l.initial.writer.board
