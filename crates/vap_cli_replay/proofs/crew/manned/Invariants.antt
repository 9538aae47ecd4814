use Rattle.std.proofs.Common.{◌≡◌, length, vec_len}
use Rattle.std.specs.List.{All}
use Rattle.vap_cli_replay.proofs.crew.manned.Given as goal

abbrev pub invariant-loop-pass : goal.invariant-loop-pass
invariant-loop-pass g l = (vec_len l.workers ≡ length l.yielded) × All (λ w. w.reader.board ≡ l.source) l.workers.items
