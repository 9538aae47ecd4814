use Rattle.std.proofs.Common.{◌+◌, [], ap, arith}
use Rattle.cel_verify.specs.Sound.{mapped_rule}
use Rattle.cel_verify.proofs.Mapping.{taken_short}
use Rattle.cel_verify.proofs.map_rule.mapped.Goals as goal

pub returns-then-count-len : goal.returns-then-count-len
returns-then-count-len c =
    ap mapped_rule (taken_short (c.args.count + c.args.count) [] c.args.types (omega (arith, c.len.ensures, c.if-count-len.true)))
