use Rattle.std.proofs.Common.{rules}
use Rattle.cel_parse.proofs.nodes.negative.Goals as goal

pub returns : goal.returns
returns c = search rules
