use Rattle.vap_policy.proofs.evaluations.Judging.run.Given as goal

abbrev pub ghost-run_programs : goal.ghost-run_programs
ghost-run_programs g a = g.types
