use Rattle.std.proofs.Common.{◌≡◌, []}
use Rattle.cel_code.specs.Machine.{taken_off}
use Rattle.cel_verify.proofs.list_rule.taken_off.Given as goal

-- what is left to take decides
abbrev pub invariant-loop-left : goal.invariant-loop-left
invariant-loop-left l = taken_off l.left l.items l.types ≡ taken_off l.count [] l.initial.types

abbrev pub decreases-loop-left : goal.decreases-loop-left
decreases-loop-left l = l.left
