use Rattle.std.proofs.Common.{◌≡◌, ◌++◌, drop}
use Rattle.vap_policy_verdict.specs.Verdicts.{warnings_of}
use Rattle.vap_policy_verdict.proofs.decision.warnings_of.Given as goal

abbrev pub invariant-loop-failure : goal.invariant-loop-failure
invariant-loop-failure l = l.made.items ++ warnings_of (drop l.failure-index l.findings) ≡ warnings_of l.findings
