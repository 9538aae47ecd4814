use Rattle.std.proofs.Common.{rules}
use Rattle.cel_check.proofs.selection.selected.Goals as goal

pub returns-in-None : goal.returns-in-None
returns-in-None c = λ known answer. rw (c.in-None.is) (c.selection.ensures known answer)
