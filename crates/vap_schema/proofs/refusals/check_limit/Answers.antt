use Rattle.std.proofs.Common.{rules}
use Rattle.vap_schema.proofs.refusals.check_limit.Goals as goal

pub returns-then-length-max : goal.returns-then-length-max
returns-then-length-max c = search rules
