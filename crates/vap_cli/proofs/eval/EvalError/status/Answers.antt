use Rattle.std.proofs.Common.{rules}
use Rattle.vap_cli.proofs.eval.EvalError.status.Goals as goal

pub returns-in-Write : goal.returns-in-Write
returns-in-Write c = search rules
