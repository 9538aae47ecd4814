use Rattle.std.proofs.Common.{arith, get_or, map, sym, ap, ◌∙◌}
use Rattle.std.specs.List.{list_any}
use Rattle.vap_policy.specs.Params.{is_param}
use Rattle.vap_policy.specs.Shown.{lent_place}
use Rattle.vap_policy.proofs.InBlocks.{one_here, none_here, none_left}
use Rattle.vap_policy.proofs.params.Selection.takes_one.Goals as goal

pub returns-then-takes_one_of : goal.returns-then-takes_one_of
returns-then-takes_one_of c =
    let l = c.loop-block in
    let bs = c.blocks-block-items.result.now in
    let same = c.as_slice.ensures ∙ c.get.ensures in
    let there = same ∙ c.block-item.is ∙ ap (get_or bs l.block-index) (sym same) in
    sym (
    one_here (is_param (lent_place c.args.self.now.place) c.args.self.now.reference.now) bs l.block-index c.as_slice.result.now
    c.loop-block-test.true there (sym c.takes_one_of.ensures ∙ c.if-takes_one_of.true)
    )
    ∙ l.invariant

pub loop-block-preserved : goal.loop-block-preserved
loop-block-preserved c =
    let l = c.loop-block in
    let bs = c.blocks-block-items.result.now in
    let same = c.as_slice.ensures ∙ c.get.ensures in
    let there = same ∙ c.block-item.is ∙ ap (get_or bs l.block-index) (sym same) in
    none_here (is_param (lent_place c.args.self.now.place) c.args.self.now.reference.now) bs l.block-index c.as_slice.result.now
    c.loop-block-test.true there (sym c.takes_one_of.ensures ∙ c.if-takes_one_of.false)
    ∙ l.invariant

-- after the last block
pub returns : goal.returns
returns c =
    let l = c.loop-block in
    let test = is_param (lent_place c.args.self.now.place) c.args.self.now.reference.now in
    ap (λ xs. list_any test (map (λ p. p.object) xs))
    (sym (none_left c.blocks-block-items.result.now l.block-index (omega (arith, c.loop-block-test.false))))
    ∙ l.invariant
