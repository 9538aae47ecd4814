use Rattle.std.proofs.Common.{rules, tests}
use Rattle.std.proofs.lemmas.Grind.{common_steps}
use Rattle.cel_value.specs.declared.cel_type.CelType.{the_lemmas}
use Rattle.cel_value.proofs.assignment.+takes.Goals as goal

pub takes-returns-in-Text-matches : goal.takes-returns-in-Text-matches
takes-returns-in-Text-matches t c = search (rules, the_lemmas)

pub takes-returns-then-not-plain : goal.takes-returns-then-not-plain
takes-returns-then-not-plain t c = search (rules, the_lemmas)

pub takes-returns-else-not-plain : goal.takes-returns-else-not-plain
takes-returns-else-not-plain t c = search (rules, the_lemmas)

pub take_fields-returns-then-ne : goal.take_fields-returns-then-ne
take_fields-returns-then-ne t c = search (rules, tests, common_steps, the_lemmas)

pub take_fields-loop-field-preserved : goal.take_fields-loop-field-preserved
take_fields-loop-field-preserved t c = search (rules, tests, common_steps, the_lemmas)
