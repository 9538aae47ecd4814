use Rattle.std.proofs.Common.{rules}
use Rattle.cel_expression.proofs.compiler.Draft.arrive_with.Goals as goal

pub returns-clause-grows : goal.returns-clause-grows
returns-clause-grows c = search rules
