use Rattle.std.proofs.Common.{rules}
use Rattle.cel_value.specs.declared.value.Value as value
use Rattle.cel_value.specs.declared.cel_type.CelType as type
use Rattle.vap_schema.proofs.scalars.null_at.Goals as goal

pub returns-then-is_null-clause-exact : goal.returns-then-is_null-clause-exact
returns-then-is_null-clause-exact c = search (rules, type.the_lemmas)

pub returns-then-is_null-clause-fits : goal.returns-then-is_null-clause-fits
returns-then-is_null-clause-fits c = search (rules, type.the_lemmas, value.the_lemmas)

pub returns-else-is_null-clause-exact : goal.returns-else-is_null-clause-exact
returns-else-is_null-clause-exact c = search (rules, type.the_lemmas)
