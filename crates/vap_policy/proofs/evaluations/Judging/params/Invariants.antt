use Rattle.vap_policy.proofs.evaluations.Judging.params.Given as goal

abbrev pub ghost-referred : goal.ghost-referred
ghost-referred g a = g.types

abbrev pub ghost-run : goal.ghost-run
ghost-run g a = g.types
