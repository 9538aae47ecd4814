use Rattle.std.proofs.Common.{ap, ◌∙◌}
use Rattle.std.specs.Prelude.{reverse}
use Rattle.cel_value.specs.declared.cel_type.CelType as type
use Rattle.cel_operators.specs.Loops.{loop_type}
use Rattle.cel_verify.specs.Sound.{empty_rule, no_items}
use Rattle.cel_verify.proofs.Openings.{no_entry, awaits}
use Rattle.cel_verify.proofs.loops.awaited.Goals as goal

pub returns-in_default : goal.returns-in_default
returns-in_default c =
    let empty = loop_type c.args.mode no_items type.Never in
    ap (λ e. empty_rule e c.args.below.now empty) c.in_default.ensures ∙ no_entry c.args.below.now empty

pub returns-in-Ok : goal.returns-in-Ok
returns-in-Ok c =
    awaits c.args.image.now c.args.mode c.args.exit c.args.below.now (reverse c.in-Some.entry.now) c.in-Ok.empty c.in-Some.ensures
    c.in-Ok.ensures c.taken_in.result c.taken_in.ensures
