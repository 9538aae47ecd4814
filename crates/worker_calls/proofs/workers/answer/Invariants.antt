use Rattle.worker_calls.proofs.workers.answer.Given as goal

-- the history has as many workers as its ledger has parts
abbrev pub ghosts-acted-L-Plan : goal.ghosts-acted-L-Plan
ghosts-acted-L-Plan g a = record { workers = a.blank.parts }

abbrev pub ghosts-acted-L-Ledger : goal.ghosts-acted-L-Ledger
ghosts-acted-L-Ledger g a = record { name = a.blank.name; parts = a.blank.parts }
