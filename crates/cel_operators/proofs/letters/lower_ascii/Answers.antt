use Rattle.std.proofs.Common.{rules, ap, ◌∙◌}
use Rattle.std.specs.Str.{chars}
use Rattle.cel_value.specs.Value.{code_points}
use Rattle.cel_operators.proofs.Recased.{chars-lower, code_points-lower}
use Rattle.cel_operators.proofs.letters.lower_ascii.Goals as goal

pub returns-clause-exact : goal.returns-clause-exact
returns-clause-exact c = search rules

pub returns-clause-spelled : goal.returns-clause-spelled
returns-clause-spelled c = ap chars (returns-clause-exact c) ∙ chars-lower c.args.text.now c.utf8.text

pub returns-clause-length : goal.returns-clause-length
returns-clause-length c = ap code_points (returns-clause-exact c) ∙ code_points-lower c.args.text.now
