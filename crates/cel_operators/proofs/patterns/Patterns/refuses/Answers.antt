use Rattle.std.proofs.Common.{ap, sym, ◌∙◌}
use Rattle.cel_operators.specs.PatternChoice.{says_no}
use Rattle.cel_operators.proofs.patterns.Patterns.refuses.Goals as goal

pub returns-in-Some : goal.returns-in-Some
returns-in-Some c = sym (c.answer.ensures.honest.chosen c.args.text.now ∙ ap says_no (sym c.answer.ensures.answer ∙ c.in-Some.is))

pub returns-in-None : goal.returns-in-None
returns-in-None c = sym (c.answer.ensures.honest.chosen c.args.text.now ∙ ap says_no (sym c.answer.ensures.answer ∙ c.in-None.is))
