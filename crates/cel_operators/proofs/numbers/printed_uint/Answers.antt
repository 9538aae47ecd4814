use Rattle.std.proofs.Common.{◌≤◌, ap, ◌∙◌, subst, sym, rules}
use Rattle.cel_value.specs.Value.{code_points}
use Rattle.cel_operators.specs.Numbers.{uint_of}
use Rattle.cel_operators.proofs.Digits.{uint_printed, uint_short}
use Rattle.cel_operators.proofs.numbers.printed_uint.Goals as goal

pub returns-clause-exact : goal.returns-clause-exact
returns-clause-exact c = search rules

pub returns-clause-back : goal.returns-clause-back
returns-clause-back c = ap uint_of (returns-clause-exact c) ∙ uint_printed c.args.uint (search rules)

pub returns-clause-short : goal.returns-clause-short
returns-clause-short c =
    subst (λ text. code_points text ≤ 20) (sym (returns-clause-exact c)) (uint_short c.args.uint (search rules))
