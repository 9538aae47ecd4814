use Rattle.std.proofs.Common.{rules}
use Rattle.vap_schema.proofs.values.check_key.Goals as goal

pub returns : goal.returns
returns c = search rules
