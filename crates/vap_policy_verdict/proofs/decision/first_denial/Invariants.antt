use Rattle.std.proofs.Common.{◌≡◌, drop}
use Rattle.std.specs.List.{find}
use Rattle.vap_policy_verdict.specs.Verdicts.{denies}
use Rattle.vap_policy_verdict.proofs.decision.first_denial.Given as goal

abbrev pub invariant-loop-finding : goal.invariant-loop-finding
invariant-loop-finding l = find denies (drop l.finding-index l.findings) ≡ find denies l.findings
