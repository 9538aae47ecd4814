use Rattle.std.proofs.Common.{◌≡◌}
use Rattle.worker_calls.proofs.workers.publish_all.Given as goal

abbrev pub invariant-loop-step : goal.invariant-loop-step
invariant-loop-step g l = l.writer.board ≡ l.initial.writer.board
