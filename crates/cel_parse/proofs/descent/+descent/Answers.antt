use Rattle.std.proofs.Common.{ℕ, List, arith}
use Rattle.std.proofs.lemmas.Result.{err_from_is_err_and}
use Rattle.cel_parse.specs.declared.heads.Closer.TheVariants as closer
use Rattle.cel_lex.specs.declared.token.Token.{Token}
use Rattle.cel_parse.specs.declared.heads.Suffix.{Suffix}
use Rattle.cel_parse.specs.declared.tree.Joint.{Joint}
use Rattle.cel_parse.specs.Views.{seen}
use Rattle.cel_parse.specs.Descent.{expression, entry}
use Rattle.cel_parse.proofs.Turns.{loop_ends, act_fails, loop_goes_on, out_of_turns, nots_give}
use Rattle.cel_parse.proofs.Rows.{item_fails, step_fails, items_end, items_go_on, out_of_items, end_is, more_is}
use Rattle.cel_parse.proofs.descent.+descent.Goals as goal

pub read_unary-read_nots-operand-requires : goal.read_unary-read_nots-operand-requires
read_unary-read_nots-operand-requires t c = omega arith

pub read_unary-returns-in-Some : goal.read_unary-returns-in-Some
read_unary-returns-in-Some t c =
    nots_give (expression c.args.source.now c.args.brackets) c.args.source.now c.args.brackets c.args.tokens.now
    (c.in-Some.place, c.in-Some.after.now) c.signed.result c.in-Some.ensures
    (c.signed.ensures _ (rw c.most_signs.ensures at c.read_nots-operand.ensures))

pub read_operators-returns-in_default : goal.read_operators-returns-in_default
read_operators-returns-in_default t c =
    loop_ends _ _ c.loop-turn._turn (seen c.loop-turn.left) _ c.loop-turn-test.true c.loop-turn.invariant.1 c.in_default.ensures

pub read_operators-returns-in_err-left-2 : goal.read_operators-returns-in_err-left-2
read_operators-returns-in_err-left-2 t c =
    let p = err_from_is_err_and c.from_residual-in_err-left-2.result c.from_residual-in_err-left-2.ensures.1 in
    let x : Joint × ℕ × List Token = (c.in-Some.joint, c.in-Some.place, c.in-Some.after.now) in
    rw (p.1, p.2)
    (act_fails _ _ c.loop-turn._turn (seen c.loop-turn.left) _ c.loop-turn-test.true c.loop-turn.invariant.1 x c.in-Some.ensures _
    (c.in_err-left-2.ensures _ c.read_operators-right.ensures))

pub read_operators-loop-turn-preserved : goal.read_operators-loop-turn-preserved
read_operators-loop-turn-preserved t c =
    let x : Joint × ℕ × List Token = (c.in-Some.joint, c.in-Some.place, c.in-Some.after.now) in (
      c.loop-turn.invariant.0,
      loop_goes_on _ _ c.loop-turn._turn (seen c.loop-turn.left) _ c.loop-turn-test.true c.loop-turn.invariant.1 x c.in-Some.ensures
          (seen c.in_ok-left-2.left) (c.in_ok-left-2.ensures _ c.read_operators-right.ensures),
    )

pub read_operators-returns : goal.read_operators-returns
read_operators-returns t c = out_of_turns _ _ c.loop-turn._turn (seen c.loop-turn.left) _ c.loop-turn-test.false c.loop-turn.invariant.1

pub read_member-returns-in_default : goal.read_member-returns-in_default
read_member-returns-in_default t c =
    loop_ends _ _ c.loop-turn._turn (seen c.loop-turn.left) _ c.loop-turn-test.true c.loop-turn.invariant c.in_default.ensures

pub read_member-returns-in_err-left-2 : goal.read_member-returns-in_err-left-2
read_member-returns-in_err-left-2 t c =
    let p = err_from_is_err_and c.from_residual-in_err-left-2.result c.from_residual-in_err-left-2.ensures.1 in
    let x : Suffix × ℕ × List Token = (c.in-Some.suffix, c.in-Some.place, c.in-Some.after.now) in
    rw (p.1, p.2)
    (act_fails _ _ c.loop-turn._turn
    (seen c.loop-turn.left) _ c.loop-turn-test.true c.loop-turn.invariant x c.in-Some.ensures _ c.in_err-left-2.ensures)

pub read_member-loop-turn-preserved : goal.read_member-loop-turn-preserved
read_member-loop-turn-preserved t c =
    let x : Suffix × ℕ × List Token = (c.in-Some.suffix, c.in-Some.place, c.in-Some.after.now) in
    loop_goes_on _ _ c.loop-turn._turn (seen c.loop-turn.left) _ c.loop-turn-test.true c.loop-turn.invariant x c.in-Some.ensures
    (seen c.in_ok-left-2.left) c.in_ok-left-2.ensures

pub read_member-returns : goal.read_member-returns
read_member-returns t c = out_of_turns _ _ c.loop-turn._turn (seen c.loop-turn.left) _ c.loop-turn-test.false c.loop-turn.invariant

pub read_items-returns-in_err-what : goal.read_items-returns-in_err-what
read_items-returns-in_err-what t c =
    let p = err_from_is_err_and c.from_residual-in_err-what.result c.from_residual-in_err-what.ensures.1 in
    rw (p.1, p.2)
    (item_fails c.args.source.now c.args.closer (expression c.args.source.now c.args.brackets) c.loop-turn._turn c.loop-turn.ahead.now
    c.loop-turn.items c.loop-turn.deepest _ c.loop-turn-test.true c.loop-turn.invariant _ c.in_err-what.ensures)

pub read_items-returns-in_err-rest-2 : goal.read_items-returns-in_err-rest-2
read_items-returns-in_err-rest-2 t c =
    let p = err_from_is_err_and c.from_residual-in_err-rest-2.result c.from_residual-in_err-rest-2.ensures.1 in
    rw (p.1, p.2)
    (step_fails c.args.source.now c.args.closer (expression c.args.source.now c.args.brackets) c.loop-turn._turn c.loop-turn.ahead.now
    c.loop-turn.items c.loop-turn.deepest _ c.loop-turn-test.true c.loop-turn.invariant (seen c.in_ok-what.field-0) c.in_ok-what.ensures
    _ c.in_err-rest-2.ensures)

pub read_items-returns-in-End : goal.read_items-returns-in-End
read_items-returns-in-End t c =
    items_end c.args.source.now c.args.closer
    (expression c.args.source.now c.args.brackets) c.loop-turn._turn c.loop-turn.ahead.now c.loop-turn.items c.loop-turn.deepest
    _ c.loop-turn-test.true c.loop-turn.invariant
    (seen c.in_ok-what.field-0) c.in_ok-what.ensures c.in-End.rest.now _ _ (end_is _ _ c.in-End.rest c.in_ok-rest-2.ensures c.in-End.is)
    (rw c.into_inner.ensures at c.in_ok-push.ensures.ok) c.max-deepest.ensures

pub read_items-loop-turn-preserved : goal.read_items-loop-turn-preserved
read_items-loop-turn-preserved t c =
    items_go_on c.args.source.now c.args.closer
    (expression c.args.source.now c.args.brackets) c.loop-turn._turn c.loop-turn.ahead.now c.loop-turn.items c.loop-turn.deepest
    _ c.loop-turn-test.true c.loop-turn.invariant
    (seen c.in_ok-what.field-0) c.in_ok-what.ensures c.in-More.rest.now _ _ (more_is _ _ c.in-More.rest c.in_ok-rest-2.ensures c.in-More.is)
    (rw c.into_inner.ensures at c.in_ok-push.ensures.ok) c.max-deepest.ensures

pub read_items-returns : goal.read_items-returns
read_items-returns t c =
    out_of_items c.args.source.now c.args.closer
    (expression c.args.source.now c.args.brackets) c.loop-turn._turn c.loop-turn.ahead.now c.loop-turn.items c.loop-turn.deepest
    _ c.loop-turn-test.false c.loop-turn.invariant

pub read_entries-returns-in_err-what : goal.read_entries-returns-in_err-what
read_entries-returns-in_err-what t c =
    let p = err_from_is_err_and c.from_residual-in_err-what.result c.from_residual-in_err-what.ensures.1 in
    rw (p.1, p.2)
    (item_fails c.args.source.now closer.Brace (entry (expression c.args.source.now c.args.brackets) c.args.source.now) c.loop-turn._turn
    c.loop-turn.ahead.now c.loop-turn.entries c.loop-turn.deepest _ c.loop-turn-test.true c.loop-turn.invariant _ c.in_err-what.ensures)

pub read_entries-returns-in_err-rest-2 : goal.read_entries-returns-in_err-rest-2
read_entries-returns-in_err-rest-2 t c =
    let p = err_from_is_err_and c.from_residual-in_err-rest-2.result c.from_residual-in_err-rest-2.ensures.1 in
    rw (p.1, p.2)
    (step_fails c.args.source.now closer.Brace (entry (expression c.args.source.now c.args.brackets) c.args.source.now) c.loop-turn._turn
    c.loop-turn.ahead.now c.loop-turn.entries c.loop-turn.deepest _ c.loop-turn-test.true c.loop-turn.invariant (seen c.in_ok-what.field-0)
    c.in_ok-what.ensures _ c.in_err-rest-2.ensures)

pub read_entries-returns-in-End : goal.read_entries-returns-in-End
read_entries-returns-in-End t c =
    items_end c.args.source.now closer.Brace
    (entry (expression c.args.source.now c.args.brackets) c.args.source.now) c.loop-turn._turn c.loop-turn.ahead.now c.loop-turn.entries
    c.loop-turn.deepest _ c.loop-turn-test.true c.loop-turn.invariant
    (seen c.in_ok-what.field-0) c.in_ok-what.ensures c.in-End.rest.now _ _
    (end_is _ _ c.in-End.rest c.in_ok-rest-2.ensures c.in-End.is) c.in_ok-push.ensures.ok c.max-deepest.ensures

pub read_entries-loop-turn-preserved : goal.read_entries-loop-turn-preserved
read_entries-loop-turn-preserved t c =
    items_go_on c.args.source.now closer.Brace
    (entry (expression c.args.source.now c.args.brackets) c.args.source.now) c.loop-turn._turn c.loop-turn.ahead.now c.loop-turn.entries
    c.loop-turn.deepest _ c.loop-turn-test.true c.loop-turn.invariant
    (seen c.in_ok-what.field-0) c.in_ok-what.ensures c.in-More.rest.now _ _
    (more_is _ _ c.in-More.rest c.in_ok-rest-2.ensures c.in-More.is) c.in_ok-push.ensures.ok c.max-deepest.ensures

pub read_entries-returns : goal.read_entries-returns
read_entries-returns t c =
    out_of_items c.args.source.now closer.Brace
    (entry (expression c.args.source.now c.args.brackets) c.args.source.now) c.loop-turn._turn c.loop-turn.ahead.now c.loop-turn.entries
    c.loop-turn.deepest _ c.loop-turn-test.false c.loop-turn.invariant
