use Rattle.std.proofs.Common.{drop}
use Rattle.vap_policy_set.proofs.Asked.{Leaves}
use Rattle.vap_policy_set.proofs.literal_patterns.ask_texts.Given as goal

abbrev pub invariant-loop-text : goal.invariant-loop-text
invariant-loop-text l = Leaves l.texts (drop l.text-index l.texts) l.initial.patterns l.patterns
