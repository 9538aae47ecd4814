use Rattle.std.proofs.Common.{◌≡◌, ◌++◌, drop, string_bytes}
use Rattle.vap_policy_verdict.specs.DecisionAnnotations.{joined, after_first}
use Rattle.vap_policy_verdict.proofs.annotation_values.join.Given as goal

abbrev pub invariant-loop-text : goal.invariant-loop-text
invariant-loop-text l = string_bytes l.out ++ after_first (drop l.text-index l.rest) ≡ joined l.texts
