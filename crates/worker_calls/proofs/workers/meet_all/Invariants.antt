use Rattle.std.proofs.Common.{◌≡◌, vec_len}
use Rattle.std.specs.List.{All}
use Rattle.worker_calls.proofs.workers.meet_all.Given as goal

abbrev pub invariant-loop-time : goal.invariant-loop-time
invariant-loop-time g l = (vec_len l.workers ≡ vec_len l.initial.workers) × All (λ w. w.reader.board ≡ l.told.board) l.workers.items
