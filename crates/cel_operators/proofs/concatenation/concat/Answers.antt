use Rattle.std.proofs.Common.{rules, ap, ◌∙◌}
use Rattle.std.proofs.lemmas.Str.{chars-append}
use Rattle.std.specs.Str.{chars}
use Rattle.cel_value.specs.Value.{code_points}
use Rattle.cel_value.proofs.CodePoints.{code_points-append}
use Rattle.cel_operators.proofs.concatenation.concat.Goals as goal

pub returns-clause-exact : goal.returns-clause-exact
returns-clause-exact c = search rules

pub returns-clause-spelled : goal.returns-clause-spelled
returns-clause-spelled c = ap chars (returns-clause-exact c) ∙ chars-append c.args.left.now c.args.right.now c.utf8.left

pub returns-clause-length : goal.returns-clause-length
returns-clause-length c = ap code_points (returns-clause-exact c) ∙ code_points-append c.args.left.now c.args.right.now
