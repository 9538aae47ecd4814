use Rattle.vap_policy.proofs.evaluations.Judging.param.Given as goal

abbrev pub ghost-run : goal.ghost-run
ghost-run g a = g.types
