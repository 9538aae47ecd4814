use Rattle.std.proofs.Common.{◌≡◌, ℕ, List, None, drop}
use Rattle.base_containers.specs.Keys.{value_under}
use Rattle.vap_policy_verdict.specs.DecisionAnnotations.{failure_annotation, values_at}
use Rattle.vap_policy_verdict.proofs.Grouped.{IsGrouping}
use Rattle.vap_policy_verdict.proofs.decision_annotations.annotations_from.Given as goal

-- under each key that has no value yet, the rest has the values of all
abbrev pub invariant-loop-place : goal.invariant-loop-place
invariant-loop-place l = record {
  grouped : IsGrouping (failure_annotation l.findings) l.entries (drop l.place l.entries) l.made;
  left : (k : List ℕ) → value_under k l.made ≡ None → values_at k (drop l.place l.entries) ≡ values_at k l.entries;
}
