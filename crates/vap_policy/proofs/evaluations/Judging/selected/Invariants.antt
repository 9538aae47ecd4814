use Rattle.vap_policy.proofs.evaluations.Judging.selected.Given as goal

abbrev pub ghost-each : goal.ghost-each
ghost-each g a = g.types
