use Rattle.std.proofs.Common.{rules}
use Rattle.cel_parse.proofs.descent.most_signs.Goals as goal

pub returns : goal.returns
returns c = search rules
