use Rattle.std.proofs.Common.{sym, ◌∙◌}
use Rattle.cel_verify.specs.Sound.{is_map}
use Rattle.cel_verify.proofs.Openings.{of_innermost, of_none}
use Rattle.cel_verify.proofs.placement.is_in_map.Goals as goal

pub returns-in-Some : goal.returns-in-Some
returns-in-Some c =
    c.is_map.ensures
    ∙ sym (of_innermost (λ o. is_map o.mode) c.args.opens.now c.in-Some.ensures.0 c.in-Some.around.now c.in-Some.ensures.1)

pub returns-in-None : goal.returns-in-None
returns-in-None c = sym (of_none (λ o. is_map o.mode) c.args.opens.now c.in-None.ensures)
