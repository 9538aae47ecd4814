use Rattle.cel_parse.proofs.Marks.{wrong-call, wrong-method}
use Rattle.cel_parse.proofs.macros.+wrong.Goals as goal

pub first_wrong-returns-in-Call : goal.first_wrong-returns-in-Call
first_wrong-returns-in-Call t c =
    let e = c.lesser.ensures in
    let own = c.wrong_call.ensures in
    let inside = c.first_wrong_in.ensures in
    let same = c.as_slice-arguments.ensures in
    let tree = c.in-Call.is in
    let wrong = wrong-call c.args.source.now c.in-Call.place c.in-Call.arguments in
    cc

pub first_wrong-returns-in-Method : goal.first_wrong-returns-in-Method
first_wrong-returns-in-Method t c =
    let e = c.lesser-in-Method.ensures in
    let f = c.lesser-inside.ensures in
    let own = c.wrong_method.ensures in
    let operand = c.first_wrong.ensures in
    let got = c.get.ensures in
    let inside = c.first_wrong_in-in-Method.ensures in
    let same = c.as_slice-arguments-in-Method.ensures in
    let tree = c.in-Method.is in
    let wrong = wrong-method c.args.source.now c.in-Method.place c.in-Method.operand c.in-Method.arguments in
    cc
