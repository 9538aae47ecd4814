use Rattle.std.proofs.Common.{rules}
use Rattle.vap_policy_programs.proofs.types.texts_type.Goals as goal

pub returns : goal.returns
returns c = search rules
