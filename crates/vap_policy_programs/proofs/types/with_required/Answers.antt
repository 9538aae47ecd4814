use Rattle.std.proofs.Common.{rules}
use Rattle.vap_policy_programs.proofs.types.with_required.Goals as goal

pub returns : goal.returns
returns c = search rules
