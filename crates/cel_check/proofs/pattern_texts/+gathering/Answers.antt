use Rattle.std.proofs.lemmas.Result.{on_ok_weaker}
use Rattle.cel_check.specs.PatternTexts.{patterns_in, of_each, of_method, seen_each}
use Rattle.cel_check.proofs.PatternTexts.{two_texts, three_texts, method_texts}
use Rattle.cel_check.proofs.PatternTexts.{two_behind, three_behind}
use Rattle.cel_check.proofs.pattern_texts.+gathering.Goals as goal

pub gather_patterns-returns-in_ok-gather_patterns-in-Index : goal.gather_patterns-returns-in_ok-gather_patterns-in-Index
gather_patterns-returns-in_ok-gather_patterns-in-Index t c =
    let whole =
    two_texts c.args.expr.now _ _ c.get-in-Index.result.now c.get-in-Index-2.result.now c.in-Index.is c.get-in-Index.ensures
    c.get-in-Index-2.ensures in
    on_ok_weaker c.gather_patterns-in-Index-2.result
    (λ h.
    two_behind c.args.texts.now.items c.gather_patterns-in-Index.new.texts.items c.gather_patterns-in-Index-2.new.texts.items _
    (patterns_in c.get-in-Index.result.now) (patterns_in c.get-in-Index-2.result.now) whole
    c.in_ok-gather_patterns-in-Index.ensures h)
    c.gather_patterns-in-Index-2.ensures

pub gather_patterns-returns-in_ok-gather_patterns-in-Conditional-2 : goal.gather_patterns-returns-in_ok-gather_patterns-in-Conditional-2
gather_patterns-returns-in_ok-gather_patterns-in-Conditional-2 t c =
    let whole =
    three_texts c.args.expr.now _ _ _ c.get-in-Conditional.result.now c.get-in-Conditional-2.result.now
    c.get-in-Conditional-3.result.now c.in-Conditional.is c.get-in-Conditional.ensures c.get-in-Conditional-2.ensures
    c.get-in-Conditional-3.ensures in
    on_ok_weaker c.gather_patterns-in-Conditional-3.result
    (λ h.
    three_behind c.args.texts.now.items c.gather_patterns-in-Conditional.new.texts.items
    c.gather_patterns-in-Conditional-2.new.texts.items c.gather_patterns-in-Conditional-3.new.texts.items _
    (patterns_in c.get-in-Conditional.result.now) (patterns_in c.get-in-Conditional-2.result.now)
    (patterns_in c.get-in-Conditional-3.result.now) whole c.in_ok-gather_patterns-in-Conditional.ensures
    c.in_ok-gather_patterns-in-Conditional-2.ensures h)
    c.gather_patterns-in-Conditional-3.ensures

pub gather_patterns-returns-in_ok-gather_each-in-Method : goal.gather_patterns-returns-in_ok-gather_each-in-Method
gather_patterns-returns-in_ok-gather_each-in-Method t c =
    let parts = of_each (seen_each c.as_slice-in-Method.result.now) in
    let given = of_method c.as_str.result.now (seen_each c.as_slice-in-Method-2.result.now) in
    let whole =
    method_texts c.args.expr.now _ c.get.result.now _ c.as_str.result.now _ c.as_slice-in-Method.result.now
    c.as_slice-in-Method-2.result.now c.in-Method.is c.get.ensures c.as_str.ensures c.as_slice-in-Method.ensures
    c.as_slice-in-Method-2.ensures in
    on_ok_weaker c.gather_of_method.result
    (λ h.
    three_behind c.args.texts.now.items c.gather_patterns.new.texts.items c.gather_each.new.texts.items
    c.gather_of_method.new.texts.items _ (patterns_in c.get.result.now) parts given whole c.in_ok-gather_patterns-in-Method.ensures
    c.in_ok-gather_each-in-Method.ensures h)
    c.gather_of_method.ensures
