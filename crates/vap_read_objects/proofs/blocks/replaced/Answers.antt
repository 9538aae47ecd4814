use Rattle.std.proofs.Common.{◌++◌, ap, ◌∙◌}
use Rattle.std.specs.Prelude.{option_to_list}
use Rattle.vap_read_objects.proofs.Replaced.{spliced}
use Rattle.vap_read_objects.proofs.blocks.replaced.Goals as goal

pub returns : goal.returns
returns g c =
    let new = option_to_list c.args.entry in
    let front = c.split_at.result.0.now in
    let behind = c.not_at.result.now in
    c.in_ok-add_shared-2.ensures
    ∙ ap (λ xs. xs ++ behind)
    (
    c.in_ok-add_one.ensures
    ∙ ap (λ xs. xs ++ new) (c.in_ok-add_shared.ensures ∙ ap (λ xs. xs ++ front) c.new-all.ensures.items)
    )
    ∙ spliced c.args.key.now new c.args.entries.now front c.split_at.result.1.now behind c.place_for.result c.place_for.ensures.place
    c.split_at.ensures.front c.split_at.ensures.back c.not_at.ensures
