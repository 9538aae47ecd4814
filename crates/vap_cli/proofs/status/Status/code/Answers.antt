use Rattle.std.proofs.Common.{rules}
use Rattle.vap_cli.proofs.status.Status.code.Goals as goal

pub returns-in-Stream : goal.returns-in-Stream
returns-in-Stream c = search rules
