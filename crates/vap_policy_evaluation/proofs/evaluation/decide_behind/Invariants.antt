use Rattle.vap_policy_evaluation.proofs.evaluation.decide_behind.Given as goal

abbrev pub ghost-decide : goal.ghost-decide
ghost-decide g a = g.types
