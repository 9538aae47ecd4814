use Rattle.std.proofs.Common.{◌≤◌, length, ap, ◌∙◌, subst, sym, rules}
use Rattle.cel_value.specs.Printed.{duration_text}
use Rattle.cel_value.specs.Reading.{duration_of}
use Rattle.cel_value.proofs.DurationBack.{duration_back, duration_short}
use Rattle.cel_value.proofs.printing.printed_duration.Goals as goal

pub returns-clause-exact : goal.returns-clause-exact
unfolding duration_text
returns-clause-exact c = search rules

pub returns-clause-back : goal.returns-clause-back
returns-clause-back c = ap duration_of (returns-clause-exact c) ∙ duration_back c.args.duration (search rules) (search rules)

pub returns-clause-short : goal.returns-clause-short
returns-clause-short c = subst (λ text. length text ≤ 22) (sym (returns-clause-exact c)) (duration_short c.args.duration (search rules))
