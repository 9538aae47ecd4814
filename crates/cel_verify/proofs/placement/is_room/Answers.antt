use Rattle.std.proofs.Common.{◌+◌, arith}
use Rattle.cel_verify.proofs.Enclosing.{same_order}
use Rattle.cel_verify.proofs.placement.is_room.Goals as goal

pub returns : goal.returns
returns c =
    same_order c.args.at c.saturating_sub.result (c.args.at + 2) c.args.exit (λ less. omega (arith, c.saturating_sub.ensures))
    (λ less. omega (arith, c.saturating_sub.ensures))
