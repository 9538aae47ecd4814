use Rattle.std.proofs.Common.{sym}
use Rattle.std.specs.Prelude.{nat_le}
use Rattle.cel_verify.proofs.Openings.{of_innermost, of_none}
use Rattle.cel_verify.proofs.opens.innermost_ends.Goals as goal

pub returns-in-Some : goal.returns-in-Some
returns-in-Some c =
    sym (of_innermost (λ o. nat_le o.exit c.args.at) c.args.opens.now c.in-Some.ensures.0 c.in-Some.around.now c.in-Some.ensures.1)

pub returns-in-None : goal.returns-in-None
returns-in-None c = sym (of_none (λ o. nat_le o.exit c.args.at) c.args.opens.now c.in-None.ensures)
