use Rattle.std.specs.Prelude.{reverse}
use Rattle.cel_operators.specs.Maps.{key_limit, keys_by_turns}
use Rattle.cel_verify.proofs.Mapping.{least_limit, limit_next, limit_all, fewer}
use Rattle.cel_verify.proofs.map_rule.key_limit.Goals as goal

pub loop-below-init : goal.loop-below-init
loop-below-init c = least_limit (key_limit (keys_by_turns (reverse c.args.entries.now)))

pub loop-below-preserved : goal.loop-below-preserved
loop-below-preserved c =
    let l = c.loop-below in
    limit_next l.limit c.text_limit.result c.greater_limit-limit.result _ l.rest.now c.in-Some.below.now _ c.in-Some.key.now
    c.text_limit.ensures c.greater_limit-limit.ensures c.in-Some.ensures l.invariant

pub loop-below-smaller : goal.loop-below-smaller
loop-below-smaller c = fewer c.loop-below.rest.now c.in-Some.below.now _ c.in-Some.key.now c.in-Some.ensures

pub returns : goal.returns
returns c = limit_all c.loop-below.limit _ c.loop-below.rest.now c.in_default.ensures c.loop-below.invariant
