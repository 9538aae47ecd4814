use Rattle.cel_verify.proofs.Mapping.{joined_next, joined_all, fewer}
use Rattle.cel_verify.proofs.map_rule.join_values.Goals as goal

pub loop-below-preserved : goal.loop-below-preserved
loop-below-preserved c =
    let l = c.loop-below in
    joined_next l.joined c.in_ok-joined.joined _ l.rest.now c.in-Some.below.now c.in-Some.value.now _ c.in_ok-joined.ensures
    c.in-Some.ensures l.invariant

pub loop-below-smaller : goal.loop-below-smaller
loop-below-smaller c = fewer c.loop-below.rest.now c.in-Some.below.now c.in-Some.value.now _ c.in-Some.ensures

pub returns : goal.returns
returns c = joined_all c.loop-below.joined _ c.loop-below.rest.now c.in_default.ensures c.loop-below.invariant
