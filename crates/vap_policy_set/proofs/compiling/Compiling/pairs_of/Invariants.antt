use Rattle.std.proofs.Common.{◌≡◌, ◌++◌, drop, filter, map}
use Rattle.vap_policy_set.specs.Sets.{is_looked_at, kind_pair, pairs_of}
use Rattle.vap_policy_set.proofs.compiling.Compiling.pairs_of.Given as goal

-- the pairs so far, with those of the kinds that are left, are all
abbrev pub invariant-loop-kind : goal.invariant-loop-kind
invariant-loop-kind l =
    l.pairs.items
    ++ map (kind_pair l.self.refused.now l.self.kinds.now l.self.policy.now)
    (filter (is_looked_at l.self.policy.now) (drop l.kind-index l.self.kinds.now))
    ≡ pairs_of l.self.refused.now l.self.kinds.now l.self.policy.now
