use Rattle.std.proofs.Common.{◌≡◌}
use Rattle.worker_calls.proofs.readers.told_each.Given as goal

abbrev pub invariant-loop-time : goal.invariant-loop-time
invariant-loop-time g l = l.reader.board ≡ l.writer.board
