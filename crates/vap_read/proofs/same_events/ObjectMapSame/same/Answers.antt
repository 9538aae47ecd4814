use Rattle.std.proofs.Common.{rules}
use Rattle.vap_read.proofs.same_events.ObjectMapSame.same.Goals as goal

pub returns : goal.returns
returns c = search rules
