use Rattle.std.proofs.Common.{◌≡◌, ◌++◌, drop, filter}
use Rattle.cel_operators.specs.PatternChoice.{refuses}
use Rattle.vap_policy_set.proofs.parts.refused_in.Given as goal

abbrev pub invariant-loop-text : goal.invariant-loop-text
invariant-loop-text l = l.part.items ++ filter (refuses l.refused) (drop l.text-index l.texts) ≡ filter (refuses l.refused) l.texts
