use Rattle.std.proofs.Common.{drop}
use Rattle.cel_check.proofs.Asked.{Goes}
use Rattle.cel_check.proofs.pattern_texts.ask_each.Given as goal

-- the texts that are left are those that are not asked for yet
abbrev pub invariant-loop-text : goal.invariant-loop-text
invariant-loop-text l = Goes l.initial.patterns l.patterns l.texts (drop l.text-index l.texts)
