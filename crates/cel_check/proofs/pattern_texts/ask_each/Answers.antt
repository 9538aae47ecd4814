use Rattle.std.proofs.Common.{arith}
use Rattle.std.proofs.lemmas.List.{drop_all}
use Rattle.cel_check.proofs.Asked.{goes_on, all_asked, text_split, text_answered}
use Rattle.cel_check.proofs.pattern_texts.ask_each.Goals as goal

pub loop-text-preserved : goal.loop-text-preserved
loop-text-preserved c =
    let l = c.loop-text in
    let text = c.as_str.result.now in
    goes_on _ _ c.look_up.new.self _ _ _ _
    (text_split c.args.texts.now l.text-index c.text-item.result text (omega (arith, c.loop-text-test.true)) c.text-item.is
    c.as_str.ensures)
    l.invariant c.look_up.ensures.grows
    (text_answered c.look_up.new.self text _ c.in_ok-look_up.ensures.answered)
    c.look_up.ensures.only

pub returns-clause-answered : goal.returns-clause-answered
returns-clause-answered c =
    let l = c.loop-text in
    all_asked _ _ _ _ (drop_all l.text-index c.args.texts.now c.loop-text-test.false) l.invariant
