use Rattle.std.proofs.Common.{◌≡◌, drop}
use Rattle.std.specs.List.{find}
use Rattle.vap_policy_set.specs.Sets.{is_pair_of}
use Rattle.vap_policy_set.proofs.bound.BoundPolicy.pair_at.Given as goal

abbrev pub invariant-loop-pair : goal.invariant-loop-pair
invariant-loop-pair l = find (is_pair_of l.kind) (drop l.pair-index l.self.pairs) ≡ find (is_pair_of l.kind) l.self.pairs
