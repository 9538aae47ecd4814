use Rattle.std.proofs.Common.{◌≡◌}
use Rattle.cel_verify.specs.Bodies.{innermost}
use Rattle.cel_verify.specs.Arrivals.{AreBodies}
use Rattle.cel_verify.proofs.bodies.bodies.Given as goal

abbrev pub invariant-loop-at : goal.invariant-loop-at
invariant-loop-at l = AreBodies l.code l.at l.bodies.items × (l.body ≡ innermost l.code l.at)
