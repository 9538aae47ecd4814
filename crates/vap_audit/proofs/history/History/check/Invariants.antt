use Rattle.std.proofs.Common.{◌≡◌}
use Rattle.vap_audit.specs.Entries.{BeginWith}
use Rattle.vap_audit.proofs.history.History.check.Given as goal

abbrev pub invariant-loop-number : goal.invariant-loop-number
invariant-loop-number l = (l.log ≡ l.snapshot) × BeginWith l.number l.self l.snapshot
