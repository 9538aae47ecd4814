use Rattle.std.proofs.Common.{◌≡◌, ◌++◌, map}
use Rattle.std.specs.Vec.Iter.{into_iter_items}
use Rattle.vap_policy.specs.Evaluations.{finding_of}
use Rattle.vap_policy.specs.Shown.{rule_of}
use Rattle.vap_policy.proofs.findings.Findings.add_failures.Given as goal

-- what was put, with those that are left, is all
abbrev pub invariant-loop-failure : goal.invariant-loop-failure
invariant-loop-failure l = record {
  failures : l.self.failures.items ++ map (finding_of (rule_of l.rule)) (into_iter_items l.failure-iterator)
      ≡ l.initial.self.failures.items ++ map (finding_of (rule_of l.rule)) l.fn.found.items;
  notes : l.self.notes.items ≡ l.initial.self.notes.items;
  charged : l.self.charged ≡ l.initial.self.charged;
}
