use Rattle.std.proofs.Common.{◌≡◌, ◌++◌, map}
use Rattle.std.specs.Vec.Iter.{into_iter_items}
use Rattle.vap_policy.specs.Evaluations.{note_of}
use Rattle.vap_policy.specs.Shown.{rule_of}
use Rattle.vap_policy.proofs.findings.Findings.add_notes.Given as goal

-- what was put, with those that are left, is all
abbrev pub invariant-loop-note : goal.invariant-loop-note
invariant-loop-note l = record {
  notes : l.self.notes.items ++ map (note_of (rule_of l.rule)) (into_iter_items l.note-iterator)
      ≡ l.initial.self.notes.items ++ map (note_of (rule_of l.rule)) l.fn.found.items;
  failures : l.self.failures.items ≡ l.initial.self.failures.items;
  charged : l.self.charged ≡ l.initial.self.charged;
}
