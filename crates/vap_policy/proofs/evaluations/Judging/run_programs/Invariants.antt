use Rattle.vap_policy.proofs.evaluations.Judging.run_programs.Given as goal

abbrev pub ghost-judge : goal.ghost-judge
ghost-judge g a = g.types
