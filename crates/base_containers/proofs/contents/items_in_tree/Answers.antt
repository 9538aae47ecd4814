use Rattle.std.proofs.Common.{◌+◌, ◌∷◌, ◌++◌, [], drop, ap, sym, ◌∙◌}
use Rattle.std.proofs.lemmas.List.{drop_more, drop_all}
use Rattle.serde_json.specs.View.{view, items_view}
use Rattle.base_containers.proofs.Gathers.{before, before_push, before_all}
use Rattle.base_containers.proofs.contents.items_in_tree.Goals as goal

pub loop-item-preserved : goal.loop-item-preserved
loop-item-preserved c =
    let l = c.loop-item in
    let items = c.args.items.now in
    let json = c.item-item.result in
    let later = drop (l.item-index + 1) items in
    let here = drop_more items l.item-index json c.loop-item-test.true ∙ ap (λ x. x ∷ later) (sym c.item-item.is) in
    let pushed = c.in_ok-push.ensures.items ∙ ap (λ d. l.found.items ++ d ∷ []) c.of_tree.ensures in
    l.invariant ∙ ap (λ vs. before l.found.items (items_view vs)) here
    ∙ before_push l.found.items (view json) (items_view later) ∙ ap (λ ds. before ds (items_view later)) (sym pushed)

pub returns : goal.returns
returns c =
    let l = c.loop-item in
    let items = c.args.items.now in
    sym (l.invariant ∙ ap (λ vs. before l.found.items (items_view vs)) (drop_all l.item-index items c.loop-item-test.false)
    ∙ before_all l.found.items)
