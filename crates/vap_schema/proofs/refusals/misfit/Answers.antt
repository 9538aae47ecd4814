use Rattle.std.proofs.Common.{rules}
use Rattle.vap_schema.proofs.refusals.misfit.Goals as goal

pub returns : goal.returns
returns c = search rules
