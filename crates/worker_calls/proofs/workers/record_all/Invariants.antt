use Rattle.std.proofs.Common.{◌≡◌}
use Rattle.worker_calls.proofs.workers.record_all.Given as goal

abbrev pub invariant-loop-one : goal.invariant-loop-one
invariant-loop-one g l = l.worker.reader ≡ l.initial.worker.reader
