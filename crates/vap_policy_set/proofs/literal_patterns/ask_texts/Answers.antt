use Rattle.std.proofs.Common.{refl, arith}
use Rattle.vap_policy_set.proofs.Asked.{is_answered, leaves_all, leaves_end, leaves_text}
use Rattle.vap_policy_set.proofs.literal_patterns.ask_texts.Goals as goal

pub loop-text-init : goal.loop-text-init
loop-text-init c = leaves_all _ _ _ refl

pub loop-text-preserved : goal.loop-text-preserved
loop-text-preserved c =
    let l = c.loop-text in
    let e = c.look_up.ensures in
    leaves_text c.args.texts.now l.text-index c.text-item.result c.as_str.result.now _ _ _ c.look_up.new.self
    (omega (arith, c.loop-text-test.true)) c.text-item.is c.as_str.ensures (is_answered _ _ c.in_ok-look_up.ensures.answered)
    e.only e.grows l.invariant

pub returns : goal.returns
returns c =
    let l = c.loop-text in
    leaves_end c.args.texts.now l.text-index _ _ _ (omega (arith, c.loop-text-test.false)) l.invariant
