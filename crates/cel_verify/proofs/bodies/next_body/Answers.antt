use Rattle.std.proofs.Common.{◌≡◌, ◌+◌, false, Some, None, sym, ap, ◌∙◌, arith, add-one}
use Rattle.std.specs.Prelude.{slice_get}
use Rattle.cel_verify.specs.Bodies.{leads_behind, last_behind, innermost}
use Rattle.cel_verify.proofs.Enclosing.{goes_out, goes_nowhere, goes_behind}
use Rattle.cel_verify.proofs.bodies.next_body.Goals as goal

pub loop-start-init : goal.loop-start-init
loop-start-init c = (omega arith, ap (last_behind c.args.code.now (c.args.at + 1)) (sym (add-one c.args.at)))

pub returns-in_default : goal.returns-in_default
returns-in_default c =
    let l = c.loop-start in
    let code = c.args.code.now in
    let ends : leads_behind (slice_get code l.start) (c.args.at + 1) ≡ false = sym c.leads_behind.ensures ∙ c.loop-start-test.true in
    let none : innermost code l.start ≡ None =
    sym (c.body_at.ensures ∙ c.requires.known.each l.start (omega (arith, l.invariant.0))) ∙ c.in_default.is in
    goes_nowhere code c.args.at l.start l.invariant.0 ends l.invariant.1 none

pub loop-start-preserved : goal.loop-start-preserved
loop-start-preserved c =
    let l = c.loop-start in
    let code = c.args.code.now in
    let outside = c.in-Some.outside in
    let ends : leads_behind (slice_get code l.start) (c.args.at + 1) ≡ false = sym c.leads_behind.ensures ∙ c.loop-start-test.true in
    let some : innermost code l.start ≡ Some outside =
    sym (c.body_at.ensures ∙ c.requires.known.each l.start (omega (arith, l.invariant.0))) ∙ c.in-Some.is in
    let out = goes_out code c.args.at l.start l.invariant.0 ends l.invariant.1 outside some in
    (omega (arith, out.0, l.invariant.0), out.1)

pub loop-start-smaller : goal.loop-start-smaller
loop-start-smaller c =
    let l = c.loop-start in
    let code = c.args.code.now in
    let outside = c.in-Some.outside in
    let ends : leads_behind (slice_get code l.start) (c.args.at + 1) ≡ false = sym c.leads_behind.ensures ∙ c.loop-start-test.true in
    let some : innermost code l.start ≡ Some outside =
    sym (c.body_at.ensures ∙ c.requires.known.each l.start (omega (arith, l.invariant.0))) ∙ c.in-Some.is in
    (goes_out code c.args.at l.start l.invariant.0 ends l.invariant.1 outside some).0

pub returns : goal.returns
returns c =
    let l = c.loop-start in
    goes_behind c.args.code.now c.args.at l.start (sym c.leads_behind.ensures ∙ c.loop-start-test.false) l.invariant.1
