use Rattle.cel_verify.proofs.Pairwise.{its_last}
use Rattle.cel_verify.proofs.type_stack.last_of.Goals as goal

pub returns-in-len1-up : goal.returns-in-len1-up
returns-in-len1-up c = its_last c.args.types.now c.t-item.result c.in-len1-up.len_at_least c.t-item.is
