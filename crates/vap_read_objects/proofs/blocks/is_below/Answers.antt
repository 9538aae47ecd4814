use Rattle.std.proofs.Common.{sym, ap, ◌∙◌}
use Rattle.std.specs.Ordering.{is_gt}
use Rattle.vap_read.specs.Keys.{key_cmp}
use Rattle.vap_read_objects.proofs.Replaced.{below_last}
use Rattle.vap_read_objects.proofs.blocks.is_below.Goals as goal

-- the last is below the key
pub returns-in-Some-clause-below : goal.returns-in-Some-clause-below
returns-in-Some-clause-below g c = λ yes.
    below_last c.args.key.now c.args.entries.now c.in-Some.last.now c.requires (sym c.in-Some.ensures.value)
    (ap (λ e. is_gt (key_cmp c.args.key.now e.key)) (sym c.get.ensures) ∙ sym c.is_above.ensures ∙ yes)
