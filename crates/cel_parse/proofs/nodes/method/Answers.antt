use Rattle.std.proofs.Common.{rules}
use Rattle.cel_parse.specs.Descent.{method}
use Rattle.cel_parse.proofs.nodes.method.Goals as goal

pub returns : goal.returns
unfolding method
returns c = search rules
