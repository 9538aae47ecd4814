use Rattle.std.proofs.Common.{◌≢◌}
use Rattle.std.specs.List.{AllWithin}
use Rattle.cel_expression.proofs.constants.find.Given as goal

-- none so far is the value
abbrev pub invariant-loop-number : goal.invariant-loop-number
invariant-loop-number l = AllWithin (λ constant. constant ≢ l.value) l.constants 0 l.number
