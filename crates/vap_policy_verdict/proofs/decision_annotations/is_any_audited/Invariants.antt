use Rattle.std.proofs.Common.{◌≡◌, drop}
use Rattle.std.specs.List.{list_any}
use Rattle.vap_policy_verdict.specs.DecisionAnnotations.{audits}
use Rattle.vap_policy_verdict.proofs.decision_annotations.is_any_audited.Given as goal

abbrev pub invariant-loop-finding : goal.invariant-loop-finding
invariant-loop-finding l = list_any audits (drop l.finding-index l.findings) ≡ list_any audits l.findings
