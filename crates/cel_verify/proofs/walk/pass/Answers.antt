use Rattle.std.proofs.Common.{sym, subst}
use Rattle.std.specs.Prelude.{MatchResult}
use Rattle.std.proofs.lemmas.Result.{err_from_is_err_and}
use Rattle.base_containers.specs.Failures.{Fails}
use Rattle.cel_verify.specs.Walked.{Passes, typed_here}
use Rattle.cel_verify.proofs.Openings.{plain_is, refused_loop, told_typed, passes_on, passes_in}
use Rattle.cel_verify.proofs.walk.pass.Goals as goal

pub returns-in_err-begun-in-Loop : goal.returns-in_err-begun-in-Loop
returns-in_err-begun-in-Loop c =
    let image = c.args.image.now in
    let r = c.in_err-begun-in-Loop.field-0.0 in
    let p = err_from_is_err_and c.from_residual.result c.from_residual.ensures.1 in
    rw (p.1, p.2)
    (subst (λ i. Fails r (typed_here image c.args.at i c.args.types c.args.opens.now)) (sym c.in-Loop.is)
    (refused_loop image c.args.at c.in-Loop.number c.in-Loop.exit c.args.types c.args.opens.now r c.in_err-begun-in-Loop.ensures))

pub returns-in_ok-begun-in-Loop : goal.returns-in_ok-begun-in-Loop
returns-in_ok-begun-in-Loop c =
    let image = c.args.image.now in
    let result = c.enter.result in
    let opens = c.args.opens.now in
    let left = c.enter.new.opens in
    subst
    (λ i. MatchResult result (λ there. Passes image c.args.at i c.args.types opens there left)
    (λ r. Fails r (typed_here image c.args.at i c.args.types opens)))
    (sym c.in-Loop.is)
    (passes_in image c.args.at c.in-Loop.number c.in-Loop.exit c.args.types opens left c.in_ok-begun-in-Loop.begun
    c.in_ok-begun-in-Loop.ensures result c.enter.ensures)

pub typed-requires-clause-plain : goal.typed-requires-clause-plain
typed-requires-clause-plain c = plain_is c.args.instr c.in_default.not-Loop

pub returns-in-Ok : goal.returns-in-Ok
returns-in-Ok c =
    let plain = plain_is c.args.instr c.in_default.not-Loop in
    passes_on c.args.image.now c.args.at c.args.instr c.args.types c.args.opens.now c.in-Ok.falls plain c.in-Ok.ensures c.go_on.result
    c.go_on.ensures

pub returns-in-Err-Fault : goal.returns-in-Err-Fault
returns-in-Err-Fault c =
    let image = c.args.image.now in
    let here = c.in-Err-Fault in
    told_typed image c.args.at c.args.instr c.args.types c.args.opens.now here.rule c.told_at.result
    (rw here.field-0-is at here.ensures) (rw here.field-0-is at c.told_at.ensures)
