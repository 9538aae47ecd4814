use Rattle.std.proofs.Common.{rules}
use Rattle.vap_cli.proofs.answer.Answer.status.Goals as goal

pub returns-in-Error : goal.returns-in-Error
returns-in-Error c = search rules

pub returns-in-Error-2 : goal.returns-in-Error-2
returns-in-Error-2 c = search rules
