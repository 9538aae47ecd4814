use Rattle.std.proofs.Common.{rules}
use Rattle.vap_read.proofs.same_events.ObjectSame.same.Goals as goal

pub returns-then-same-2 : goal.returns-then-same-2
returns-then-same-2 c = search rules
