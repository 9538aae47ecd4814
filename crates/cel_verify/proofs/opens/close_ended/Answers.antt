use Rattle.std.proofs.Common.{sym, ◌∙◌}
use Rattle.cel_verify.proofs.Openings.{one_ended, not_ended}
use Rattle.cel_verify.proofs.opens.close_ended.Goals as goal

pub loop-opens-preserved : goal.loop-opens-preserved
loop-opens-preserved c =
    let l = c.loop-opens in
    let is = sym c.innermost_ends.ensures ∙ c.loop-opens-test.true in
    (one_ended c.args.at l.opens c.pop.new.self c.pop.result is c.pop.ensures).0 ∙ l.invariant

pub loop-opens-smaller : goal.loop-opens-smaller
loop-opens-smaller c =
    let is = sym c.innermost_ends.ensures ∙ c.loop-opens-test.true in
    (one_ended c.args.at c.loop-opens.opens c.pop.new.self c.pop.result is c.pop.ensures).1

pub returns : goal.returns
returns c =
    let l = c.loop-opens in
    sym (not_ended c.args.at l.opens (sym c.innermost_ends.ensures ∙ c.loop-opens-test.false)) ∙ l.invariant
