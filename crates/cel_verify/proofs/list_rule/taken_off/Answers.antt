use Rattle.std.proofs.Common.{◌∙◌, arith}
use Rattle.cel_code.proofs.Taking.{taking}
use Rattle.cel_verify.proofs.list_rule.taken_off.Goals as goal

pub loop-left-preserved : goal.loop-left-preserved
loop-left-preserved c =
    let l = c.loop-left in
    taking l.left l.items l.types c.pop.new.self c.push.new.self c.in-Some.cel_type (omega (arith, c.loop-left-test.true))
    c.in-Some.ensures c.in_ok-push.ensures
    ∙ l.invariant
