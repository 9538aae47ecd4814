use Rattle.std.proofs.Common.{arith, rules, tests}
use Rattle.std.proofs.lemmas.Grind.{common_steps}
use Rattle.cel_value.specs.declared.value.Value as value
use Rattle.cel_value.specs.declared.cel_type.CelType as type
use Rattle.cel_value.proofs.membership.+admits.Goals as goal

pub admits-returns-in-Text-value : goal.admits-returns-in-Text-value
admits-returns-in-Text-value t c = search (rules, type.the_lemmas, value.the_lemmas)

pub admits_fields-returns : goal.admits_fields-returns
admits_fields-returns t c = grind (arith, common_steps)

pub admits-returns-then-len-max : goal.admits-returns-then-len-max
admits-returns-then-len-max t c = search (rules, type.the_lemmas, value.the_lemmas)

pub admits_fields-loop-field-preserved : goal.admits_fields-loop-field-preserved
admits_fields-loop-field-preserved t c = search (rules, tests, common_steps, type.the_lemmas, value.the_lemmas)

pub admits_fields-returns-then-field : goal.admits_fields-returns-then-field
admits_fields-returns-then-field t c = search (rules, tests, common_steps, type.the_lemmas, value.the_lemmas)

pub admits_fields-returns-then-not-admits : goal.admits_fields-returns-then-not-admits
admits_fields-returns-then-not-admits t c = search (rules, tests, common_steps, type.the_lemmas, value.the_lemmas)

pub admits_entries-loop-entry-preserved : goal.admits_entries-loop-entry-preserved
admits_entries-loop-entry-preserved t c = search (rules, tests, common_steps, type.the_lemmas, value.the_lemmas)

pub admits_items-loop-item-preserved : goal.admits_items-loop-item-preserved
admits_items-loop-item-preserved t c = search (rules, tests, common_steps, type.the_lemmas, value.the_lemmas)
