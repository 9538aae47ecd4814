use Rattle.vap_policy_evaluation.proofs.validations.validate.Given as goal

abbrev pub ghost-message : goal.ghost-message
ghost-message g a = g.types
