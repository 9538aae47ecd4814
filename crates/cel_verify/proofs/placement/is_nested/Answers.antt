use Rattle.std.proofs.Common.{◌&&◌, None, sym, ap, ◌∙◌}
use Rattle.std.specs.Prelude.{slice_index_or}
use Rattle.cel_verify.specs.Bodies.{same_loop, same_body}
use Rattle.cel_verify.specs.Sound.{every, jumps_of}
use Rattle.cel_verify.proofs.Enclosing.{near_is}
use Rattle.cel_verify.proofs.placement.is_nested.Goals as goal

pub returns : goal.returns
returns c =
    let code = c.args.image.now.code in
    let at = c.args.at in
    let i = c.args.instr in
    c.has_near_jumps.ensures
    ∙ ap (λ bodies. every (λ to. same_loop (slice_index_or bodies at None) (slice_index_or bodies to None)) (jumps_of i))
    c.as_slice.ensures.value
    ∙ near_is code c.args.arrivals.now.bodies.items at (jumps_of i) c.requires.known.bodies c.requires.inside c.requires.jumps
    ∙ sym (ap (λ b. b && every (same_body code at) (jumps_of i)) (sym c.is_placed.ensures ∙ c.if-not-is_placed.false))
