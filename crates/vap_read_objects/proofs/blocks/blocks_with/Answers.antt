use Rattle.std.proofs.Common.{◌++◌, ap, ◌∙◌}
use Rattle.std.specs.Prelude.{option_to_list}
use Rattle.vap_read_objects.specs.Blocks.{joined}
use Rattle.vap_read_objects.proofs.Replaced.{put_together}
use Rattle.vap_read_objects.proofs.blocks.blocks_with.Goals as goal

pub returns : goal.returns
returns g c =
    let front = c.split_at.result.0.now in
    let es = c.as_slice.result.now in
    put_together c.args.key.now (option_to_list c.args.entry) es c.first_of.result.now c.args.blocks.now front c.split_at.result.1.now
    c.add_entries.new.blocks.items c.behind_first.result.now c.add_shared-2.new.all.items c.block_for.result c.block_for.ensures
    c.split_at.ensures.front c.split_at.ensures.back c.first_of.ensures (c.as_slice.ensures.value ∙ c.in_ok-entries.ensures)
    (
    c.in_ok-add_entries.ensures
    ∙ ap (λ bs. joined bs ++ es) (c.in_ok-add_shared.ensures ∙ ap (λ bs. bs ++ front) c.new-made.ensures.items)
    )
    c.behind_first.ensures c.in_ok-add_shared-2.ensures
