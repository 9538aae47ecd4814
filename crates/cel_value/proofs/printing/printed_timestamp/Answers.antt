use Rattle.std.proofs.Common.{◌≤◌, length, ap, ◌∙◌, subst, sym, rules}
use Rattle.cel_value.specs.Printed.{timestamp_text}
use Rattle.cel_value.specs.Reading.{timestamp_of}
use Rattle.cel_value.proofs.TimestampBack.{timestamp_back, timestamp_short}
use Rattle.cel_value.proofs.printing.printed_timestamp.Goals as goal

pub returns-clause-exact : goal.returns-clause-exact
unfolding timestamp_text
returns-clause-exact c = search rules

pub returns-clause-back : goal.returns-clause-back
returns-clause-back c = ap timestamp_of (returns-clause-exact c) ∙ timestamp_back c.args.timestamp (search rules)

pub returns-clause-short : goal.returns-clause-short
returns-clause-short c = subst (λ text. length text ≤ 30) (sym (returns-clause-exact c)) (timestamp_short c.args.timestamp)
