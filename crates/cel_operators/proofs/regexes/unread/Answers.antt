use Rattle.std.proofs.Common.{rules}
use Rattle.cel_operators.proofs.Read.{no_pattern}
use Rattle.cel_operators.proofs.regexes.unread.Goals as goal

pub returns-in_default-clause-reason : goal.returns-in_default-clause-reason
returns-in_default-clause-reason c = λ text refused. no_pattern text c.args.kind refused (search rules)
