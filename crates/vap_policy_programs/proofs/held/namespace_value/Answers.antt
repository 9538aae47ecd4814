use Rattle.std.proofs.Common.{◌≡◌, true, rules, tests}
use Rattle.cel_value.specs.CelType.{fits}
use Rattle.cel_value.specs.declared.cel_type.CelType as type
use Rattle.cel_value.specs.declared.cel_type.CelType.{CelType}
use Rattle.cel_value.specs.declared.value.Value as value
use Rattle.vap_policy_programs.proofs.held.namespace_value.Goals as goal

null_fits : (t : CelType) → fits value.Null (type.Nullable t) ≡ true
null_fits t = search (rules, tests, type.the_lemmas, value.the_lemmas)

pub returns-then-is_cluster-clause-fits : goal.returns-then-is_cluster-clause-fits
returns-then-is_cluster-clause-fits c = null_fits _

pub returns-in-None-clause-fits : goal.returns-in-None-clause-fits
returns-in-None-clause-fits c = null_fits _

pub returns-in-Some-clause-exact : goal.returns-in-Some-clause-exact
returns-in-Some-clause-exact c = search rules
