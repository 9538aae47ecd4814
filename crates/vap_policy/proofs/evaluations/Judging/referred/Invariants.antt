use Rattle.vap_policy.proofs.evaluations.Judging.referred.Given as goal

abbrev pub ghost-selected : goal.ghost-selected
ghost-selected g a = g.types
