use Rattle.cel_verify.proofs.Mapping.{its_last_two}
use Rattle.cel_verify.proofs.map_rule.last_two.Goals as goal

pub returns-in-len2-up : goal.returns-in-len2-up
returns-in-len2-up c =
    its_last_two c.args.types.now c.s-item.result c.t-item.result c.in-len2-up.len_at_least c.s-item.is c.t-item.is
