use Rattle.std.proofs.Common.{◌≡◌, length, subst, arith}
use Rattle.cel_verify.specs.Arrivals.{AreBodies}
use Rattle.cel_verify.proofs.Enclosing.{one_body}
use Rattle.cel_verify.proofs.bodies.bodies.Goals as goal

pub next_body-body-requires-clause-known : goal.next_body-body-requires-clause-known
next_body-body-requires-clause-known c =
    let l = c.loop-at in
    let code = c.args.code.now in
    rw (c.as_slice.ensures.value, c.in_ok-push.ensures.items)
    (one_body code l.at l.bodies.items l.body l.invariant.0 l.invariant.1)

pub loop-at-preserved : goal.loop-at-preserved
loop-at-preserved c =
    let l = c.loop-at in
    let code = c.args.code.now in (
      rw c.in_ok-push.ensures.items (one_body code l.at l.bodies.items l.body l.invariant.0 l.invariant.1),
      c.next_body-body.ensures,
    )

pub returns : goal.returns
returns c =
    let l = c.loop-at in
    let code = c.args.code.now in
    let all : l.at ≡ length code = omega arith in
    subst (λ n. AreBodies code n l.bodies.items) all l.invariant.0
