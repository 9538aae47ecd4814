use Rattle.std.proofs.Common.{rules}
use Rattle.cel_check.proofs.matches_method.matched.Goals as goal

pub returns : goal.returns
returns c = search rules

pub returns-then-refuses : goal.returns-then-refuses
returns-then-refuses c = search rules

pub returns-in_default : goal.returns-in_default
returns-in_default c = search rules
