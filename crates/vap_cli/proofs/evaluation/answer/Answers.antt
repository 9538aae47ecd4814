use Rattle.std.proofs.Common.{rules}
use Rattle.vap_cli.proofs.evaluation.answer.Goals as goal

pub returns : goal.returns
returns c = search rules
