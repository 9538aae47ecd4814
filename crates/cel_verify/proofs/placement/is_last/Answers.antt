use Rattle.std.proofs.Common.{◌+◌, sym, ◌∙◌}
use Rattle.std.specs.Prelude.{nat_eq}
use Rattle.cel_verify.proofs.Openings.{of_innermost, of_none}
use Rattle.cel_verify.proofs.placement.is_last.Goals as goal

pub returns-in-Some : goal.returns-in-Some
returns-in-Some c =
    c.is_behind.ensures
    ∙ sym (of_innermost (λ o. nat_eq o.exit (c.args.at + 1)) c.args.opens.now c.in-Some.ensures.0 c.in-Some.around.now c.in-Some.ensures.1)

pub returns-in-None : goal.returns-in-None
returns-in-None c = sym (of_none (λ o. nat_eq o.exit (c.args.at + 1)) c.args.opens.now c.in-None.ensures)
