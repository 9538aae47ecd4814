use Rattle.vap_plane.proofs.running.run_workers.Given as goal

-- the batch is that of the round
abbrev pub ghosts-run : goal.ghosts-run
ghosts-run g a = record { requests = a.round.requests.items; told = a.round.told.items }
