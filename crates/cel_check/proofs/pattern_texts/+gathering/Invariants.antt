use Rattle.std.proofs.Common.{◌≡◌, ◌++◌, drop}
use Rattle.cel_check.specs.PatternTexts.{of_each, of_entries, seen_each, seen_entries}
use Rattle.cel_check.proofs.pattern_texts.+gathering.Given as goal

-- what is there, with what is left, is all
abbrev pub invariant-gather_each-loop-part : goal.invariant-gather_each-loop-part
invariant-gather_each-loop-part l =
    l.texts.items ++ of_each (seen_each (drop l.part-index l.parts)) ≡ l.initial.texts.items ++ of_each (seen_each l.parts)

abbrev pub invariant-gather_entries-loop-entry : goal.invariant-gather_entries-loop-entry
invariant-gather_entries-loop-entry l =
    l.texts.items ++ of_entries (seen_entries (drop l.entry-index l.entries)) ≡ l.initial.texts.items ++ of_entries (seen_entries l.entries)
