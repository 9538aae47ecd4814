use Rattle.std.proofs.Common.{rules}
use Rattle.vap_read.proofs.same_events.EventSame.same.Goals as goal

pub returns-in-Removed-Removed : goal.returns-in-Removed-Removed
returns-in-Removed-Removed c = search rules
