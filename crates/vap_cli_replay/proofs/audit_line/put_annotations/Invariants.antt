use Rattle.std.proofs.Common.{◌≡◌, ◌++◌, take}
use Rattle.vap_cli_replay.specs.AuditLine.{annotation_members}
use Rattle.vap_cli_replay.proofs.audit_line.put_annotations.Given as goal

abbrev pub invariant-loop-entry : goal.invariant-loop-entry
invariant-loop-entry l = record {
  tokens : l.out.tokens ≡ l.initial.out.tokens ++ annotation_members (take l.entry-index l.annotations);
  before : l.out.before ≡ l.initial.out.before;
}
