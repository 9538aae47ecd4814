use Rattle.cel_verify.proofs.Openings.{told_alike}
use Rattle.cel_verify.proofs.walk.told_at.Goals as goal

pub returns-in_default : goal.returns-in_default
returns-in_default c = told_alike _ c.args.broken c.in_default.not-OverBudget
