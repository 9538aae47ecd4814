use Rattle.std.proofs.Common.{◌+◌, arith}
use Rattle.cel_verify.specs.Sound.{max_depth}
use Rattle.cel_verify.proofs.Enclosing.{same_order}
use Rattle.cel_verify.proofs.walk.is_more.Goals as goal

pub returns : goal.returns
returns c =
    same_order max_depth c.saturating_add.result max_depth (c.args.operands + c.args.below)
    (λ less. omega (arith, c.saturating_add.ensures)) (λ less. omega (arith, c.saturating_add.ensures))
