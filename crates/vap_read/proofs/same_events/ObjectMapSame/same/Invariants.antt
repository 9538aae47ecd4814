use Rattle.std.proofs.Common.{◌≡◌, ◌↔◌}
use Rattle.vap_read.proofs.same_events.ObjectMapSame.same.Given as goal

-- the objects are the same exactly if those that are left are
abbrev pub invariant-loop-key : goal.invariant-loop-key
invariant-loop-key l = record {
  can_next : goal.iterator-loop-key.can_next l.key-iterator;
  is_finite : goal.iterator-loop-key.is_finite l.key-iterator;
  left : (l.self ≡ l.other) ↔ (l.key-iterator ≡ l.others);
}
