use Rattle.std.proofs.Common.{◌≡◌, length}
use Rattle.std.specs.Str.{bytes_eq}
use Rattle.cel_check.specs.Selectors.{spelled_out}
use Rattle.cel_check.proofs.selectors.is_spelled_out.Given as goal

abbrev pub invariant-loop-spelling : goal.invariant-loop-spelling
invariant-loop-spelling l = bytes_eq (spelled_out l.name) l.selector ≡ bytes_eq (spelled_out l.fn.name) l.fn.selector

abbrev pub decreases-loop-spelling : goal.decreases-loop-spelling
decreases-loop-spelling l = length l.name
