use Rattle.std.proofs.Common.{◌≡◌}
use Rattle.worker_calls.proofs.workers.publish.Given as goal

abbrev pub invariant-loop-json : goal.invariant-loop-json
invariant-loop-json g l = l.writer.board ≡ l.initial.writer.board
