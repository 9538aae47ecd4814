use Rattle.std.proofs.Common.{ap, ◌∙◌}
use Rattle.std.specs.Prelude.{option_to_list}
use Rattle.vap_read_objects.specs.Blocks.{joined}
use Rattle.vap_read_objects.specs.Tables.{replaced}
use Rattle.vap_read_objects.proofs.Order.{in_order_set}
use Rattle.vap_read_objects.proofs.table.Table.set.Goals as goal

-- the order is kept
pub invariant_of-self : goal.invariant_of-self
invariant_of-self g c =
    in_order_set c.args.key.now c.args.entry (joined c.self.inside.blocks.items) (joined c.in_ok-self-inside.field-0.items) c.requires
    c.self.invariant
    (
    c.in_ok-self-inside.ensures
    ∙ ap (λ bs. replaced c.args.key.now (option_to_list c.args.entry) (joined bs)) c.as_slice.ensures.value
    )
