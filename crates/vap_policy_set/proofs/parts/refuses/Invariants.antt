use Rattle.std.proofs.Common.{◌≡◌, drop}
use Rattle.cel_operators.specs.PatternChoice.{refuses}
use Rattle.vap_policy_set.proofs.parts.refuses.Given as goal

abbrev pub invariant-loop-other : goal.invariant-loop-other
invariant-loop-other l = refuses (drop l.other-index l.refused) l.text ≡ refuses l.refused l.text
