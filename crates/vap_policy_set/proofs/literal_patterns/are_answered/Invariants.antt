use Rattle.std.proofs.Common.{drop}
use Rattle.cel_check.specs.PatternTexts.{AreAnswered}
use Rattle.vap_policy_set.proofs.literal_patterns.are_answered.Given as goal

-- once those that are left were answered, all were
abbrev pub invariant-loop-text : goal.invariant-loop-text
invariant-loop-text l = AreAnswered l.patterns (drop l.text-index l.texts) → AreAnswered l.patterns l.texts
