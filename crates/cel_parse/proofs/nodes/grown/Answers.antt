use Rattle.std.proofs.Common.{rules}
use Rattle.cel_parse.specs.Descent.{node}
use Rattle.cel_parse.proofs.nodes.grown.Goals as goal

pub returns-then-is_too_deep : goal.returns-then-is_too_deep
unfolding node
returns-then-is_too_deep c = search rules
