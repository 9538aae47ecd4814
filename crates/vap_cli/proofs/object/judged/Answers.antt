use Rattle.std.proofs.Common.{rules}
use Rattle.vap_cli.proofs.object.judged.Goals as goal

pub returns-in-Ok : goal.returns-in-Ok
returns-in-Ok c = search rules
