use Rattle.std.proofs.Common.{◌≡◌, vec_len}
use Rattle.worker_calls.proofs.workers.two.Given as goal

abbrev pub invariant-loop-number : goal.invariant-loop-number
invariant-loop-number l = vec_len l.requests ≡ l._number
