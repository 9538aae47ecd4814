use Rattle.std.proofs.Common.{rules}
use Rattle.cel_value.specs.declared.value.Value as value
use Rattle.cel_value.specs.declared.cel_type.CelType as type
use Rattle.vap_schema.proofs.scalars.text_at.Goals as goal

pub returns-in-Some-clause-exact : goal.returns-in-Some-clause-exact
returns-in-Some-clause-exact c = search (rules, type.the_lemmas)

pub returns-in-Some-clause-fits : goal.returns-in-Some-clause-fits
returns-in-Some-clause-fits c = search (rules, type.the_lemmas, value.the_lemmas)

pub returns-in-None-clause-exact : goal.returns-in-None-clause-exact
returns-in-None-clause-exact c = search (rules, type.the_lemmas)
