use Rattle.std.proofs.Common.{◌+◌, arith}
use Rattle.cel_verify.proofs.Enclosing.{same_number}
use Rattle.cel_verify.proofs.placement.is_behind.Goals as goal

pub returns : goal.returns
returns c =
    same_number c.saturating_sub.result 1 c.args.at (c.args.start + 1) (λ same. omega (arith, c.saturating_sub.ensures))
    (λ same. omega (arith, c.saturating_sub.ensures))
