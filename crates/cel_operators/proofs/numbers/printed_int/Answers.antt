use Rattle.std.proofs.Common.{◌≤◌, ap, ◌∙◌, subst, sym, rules}
use Rattle.cel_value.specs.Value.{code_points}
use Rattle.cel_operators.specs.Numbers.{int_of}
use Rattle.cel_operators.proofs.Digits.{int_printed, int_short}
use Rattle.cel_operators.proofs.numbers.printed_int.Goals as goal

pub returns-clause-exact : goal.returns-clause-exact
returns-clause-exact c = search rules

pub returns-clause-back : goal.returns-clause-back
returns-clause-back c = ap int_of (returns-clause-exact c) ∙ int_printed c.args.int (search rules)

pub returns-clause-short : goal.returns-clause-short
returns-clause-short c =
    subst (λ text. code_points text ≤ 20) (sym (returns-clause-exact c)) (int_short c.args.int (search rules))
