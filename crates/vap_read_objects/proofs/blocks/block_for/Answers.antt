use Rattle.std.proofs.Common.{get_or, sym, ap, ◌∙◌, arith}
use Rattle.vap_read_objects.proofs.Replaced.{below_next, block_in_order, found_above, found_end}
use Rattle.vap_read_objects.proofs.blocks.block_for.Goals as goal

pub is_below-requires : goal.is_below-requires
is_below-requires g c =
    let bs = c.args.blocks.now in
    let same = c.as_slice.ensures ∙ c.get.ensures in
    let there = same ∙ c.index-blocks-at.is ∙ ap (get_or bs c.loop-at.at) (sym same) in
    block_in_order bs c.loop-at.at c.as_slice.result.now c.loop-at-test.true there c.requires

-- the block is not below the key
pub returns-then-not-is_below : goal.returns-then-not-is_below
returns-then-not-is_below g c =
    let bs = c.args.blocks.now in
    let same = c.as_slice.ensures ∙ c.get.ensures in
    let there = same ∙ c.index-blocks-at.is ∙ ap (get_or bs c.loop-at.at) (sym same) in
    found_above c.args.key.now bs c.loop-at.at c.as_slice.result.now c.loop-at-test.true there c.loop-at.invariant
    (c.is_below.ensures.ends c.if-not-is_below.true)

-- it is
pub loop-at-preserved : goal.loop-at-preserved
loop-at-preserved g c =
    let bs = c.args.blocks.now in
    let same = c.as_slice.ensures ∙ c.get.ensures in
    let there = same ∙ c.index-blocks-at.is ∙ ap (get_or bs c.loop-at.at) (sym same) in
    below_next c.args.key.now bs c.loop-at.at c.as_slice.result.now c.loop-at-test.true there c.loop-at.invariant
    (c.is_below.ensures.below c.if-not-is_below.false)

-- all blocks are
pub returns : goal.returns
returns g c =
    let bs = c.args.blocks.now in
    found_end c.args.key.now bs c.loop-at.at c.saturating_sub.result (omega (arith, c.loop-at-test.false)) c.loop-at.invariant
    (omega (arith, c.saturating_sub.ensures))
