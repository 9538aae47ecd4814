use Rattle.std.proofs.Common.{◌≡◌, ◌++◌, drop}
use Rattle.vap_policy_verdict.specs.DecisionAnnotations.{values_at}
use Rattle.vap_policy_verdict.proofs.Once.{without}
use Rattle.vap_policy_verdict.proofs.annotation_values.distinct_values.Given as goal

-- the values so far, with those of the rest that are not among them, are all
abbrev pub invariant-loop-entry : goal.invariant-loop-entry
invariant-loop-entry l =
    l.texts.items ++ without l.texts.items (values_at l.key (drop l.entry-index l.entries)) ≡ values_at l.key l.entries
