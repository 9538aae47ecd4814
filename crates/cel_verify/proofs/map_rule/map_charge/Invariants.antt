use Rattle.std.specs.Prelude.{reverse}
use Rattle.cel_verify.proofs.Mapping.{Charges}
use Rattle.cel_verify.proofs.map_rule.map_charge.Given as goal

abbrev pub invariant-loop-left : goal.invariant-loop-left
invariant-loop-left l = Charges l.count (reverse l.types) (reverse l.rest) l.left l.charge

abbrev pub decreases-loop-left : goal.decreases-loop-left
decreases-loop-left l = l.left
