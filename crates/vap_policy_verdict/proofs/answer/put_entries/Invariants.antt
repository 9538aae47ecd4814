use Rattle.std.proofs.Common.{◌≡◌, ◌++◌, drop}
use Rattle.std.specs.List.{flat_map}
use Rattle.vap_policy_verdict.specs.AnswerText.{entry_tokens}
use Rattle.vap_policy_verdict.proofs.answer.put_entries.Given as goal

abbrev pub invariant-loop-entry : goal.invariant-loop-entry
invariant-loop-entry l =
    (l.out.tokens ++ flat_map entry_tokens (drop l.entry-index l.entries)
    ≡ l.initial.out.tokens ++ flat_map entry_tokens l.entries)
    × (l.out.before ≡ l.initial.out.before)
