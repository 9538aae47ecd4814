use Rattle.std.proofs.Common.{rules}
use Rattle.cel_parse.proofs.expansion.map_where.Goals as goal

pub returns : goal.returns
returns c = search rules
