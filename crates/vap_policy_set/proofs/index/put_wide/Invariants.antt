use Rattle.std.proofs.Common.{◌≡◌, ◌++◌, drop, map, take}
use Rattle.vap_policy_set.specs.Index.{with_policy}
use Rattle.vap_policy_set.proofs.index.put_wide.Given as goal

abbrev pub invariant-loop-at : goal.invariant-loop-at
invariant-loop-at l =
    l.entries ≡ map (with_policy l.policy) (take l.at l.initial.entries) ++ drop l.at l.initial.entries
