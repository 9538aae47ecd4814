use Rattle.vap_policy_evaluation.proofs.evaluation.decide.Given as goal

abbrev pub ghost-validate_all : goal.ghost-validate_all
ghost-validate_all g a = g.types

abbrev pub ghost-annotate_all : goal.ghost-annotate_all
ghost-annotate_all g a = g.types
