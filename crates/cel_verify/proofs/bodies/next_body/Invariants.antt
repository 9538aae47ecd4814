use Rattle.std.proofs.Common.{◌≡◌, ◌+◌, ◌≤◌, suc}
use Rattle.cel_verify.specs.Bodies.{last_behind, innermost}
use Rattle.cel_verify.proofs.bodies.next_body.Given as goal

-- what is found from here outwards is what is asked
abbrev pub invariant-loop-start : goal.invariant-loop-start
invariant-loop-start l =
    (l.start ≤ l.at) × (last_behind l.code (l.at + 1) (suc l.start) ≡ innermost l.code (l.at + 1))

abbrev pub decreases-loop-start : goal.decreases-loop-start
decreases-loop-start l = l.start
