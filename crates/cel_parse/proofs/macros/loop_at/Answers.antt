use Rattle.std.proofs.Common.{rules}
use Rattle.cel_parse.specs.Macros.{loop_of}
use Rattle.cel_parse.proofs.macros.loop_at.Goals as goal

pub returns-then-eq-2 : goal.returns-then-eq-2
unfolding loop_of
returns-then-eq-2 c = search rules
