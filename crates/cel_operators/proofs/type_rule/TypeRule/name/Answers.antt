use Rattle.std.proofs.Common.{rules}
use Rattle.cel_operators.proofs.type_rule.TypeRule.name.Goals as goal

pub returns-in-UnknownName : goal.returns-in-UnknownName
returns-in-UnknownName c = search rules
