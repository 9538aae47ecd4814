use Rattle.vap_policy_programs.specs.Ready.{all_types}
use Rattle.vap_policy_evaluation.proofs.evaluation.judge.Given as goal

abbrev pub ghost-pass : goal.ghost-pass
ghost-pass g a = g.types

abbrev pub ghost-evaluate : goal.ghost-evaluate
ghost-evaluate g a = (g.types, all_types g.types a.variables.now)

abbrev pub ghost-decide_behind : goal.ghost-decide_behind
ghost-decide_behind g a = all_types g.types a.programs.now.variables
