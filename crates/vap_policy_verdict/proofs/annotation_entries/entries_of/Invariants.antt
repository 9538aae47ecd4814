use Rattle.std.proofs.Common.{◌≡◌, ◌++◌, drop}
use Rattle.vap_policy_verdict.specs.DecisionAnnotations.{entries_of}
use Rattle.vap_policy_verdict.proofs.annotation_entries.entries_of.Given as goal

abbrev pub invariant-loop-note : goal.invariant-loop-note
invariant-loop-note l = l.entries.items ++ entries_of (drop l.note-index l.notes) ≡ entries_of l.notes
