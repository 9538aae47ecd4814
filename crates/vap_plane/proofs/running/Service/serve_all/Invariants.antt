use Rattle.std.proofs.Common.{◌≡◌}
use Rattle.vap_plane.specs.Answers.{KnowsOneOf}
use Rattle.vap_plane.proofs.running.Service.serve_all.Given as goal

-- the worker knows one of the told logs, and is of the board that it was of
abbrev pub invariant-loop-turn : goal.invariant-loop-turn
invariant-loop-turn g l = KnowsOneOf g.B.Batch.told l.worker.reader × (l.worker.reader.board ≡ l.initial.worker.reader.board)
