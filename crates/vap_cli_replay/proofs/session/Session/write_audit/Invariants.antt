use Rattle.std.proofs.Common.{◌≡◌}
use Rattle.base_containers.specs.Counted.{failures_of, inner_of}
use Rattle.vap_cli_replay.proofs.Auditing.{Audits}
use Rattle.vap_cli_replay.proofs.session.Session.write_audit.Given as goal

-- lines are written or in the text up to this number, and no write has failed
abbrev pub invariant-loop-number : goal.invariant-loop-number
invariant-loop-number g l = record {
  written : Audits (g.W.Write.contents (inner_of l.initial.out)) (g.W.Write.contents (inner_of l.out)) l.self.history l.number
      l.text.items;
  counted : failures_of l.out ≡ failures_of l.initial.out;
}
