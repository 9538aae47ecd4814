use Rattle.vap_cli_replay.proofs.stream.replay_with.Given as goal

-- the workers are as many as the ledger has parts
abbrev pub ghosts-replay_as-L-Plan : goal.ghosts-replay_as-L-Plan
ghosts-replay_as-L-Plan g a = record { workers = a.blank.parts }

abbrev pub ghosts-replay_as-L-Ledger : goal.ghosts-replay_as-L-Ledger
ghosts-replay_as-L-Ledger g a = record { name = a.blank.name; parts = a.blank.parts }
