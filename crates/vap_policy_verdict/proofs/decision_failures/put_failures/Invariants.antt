use Rattle.std.proofs.Common.{◌≡◌, ◌++◌, drop}
use Rattle.std.specs.List.{flat_map}
use Rattle.vap_policy_verdict.specs.Failures.{audited_tokens}
use Rattle.vap_policy_verdict.proofs.decision_failures.put_failures.Given as goal

abbrev pub invariant-loop-finding : goal.invariant-loop-finding
invariant-loop-finding l =
    (l.out.tokens ++ flat_map audited_tokens (drop l.finding-index l.findings)
    ≡ l.initial.out.tokens ++ flat_map audited_tokens l.findings)
    × (l.out.before ≡ l.initial.out.before)
