use Rattle.std.proofs.Common.{◌≡◌, ◌++◌, drop}
use Rattle.std.specs.List.{flat_map}
use Rattle.vap_policy_set.specs.Sets.{misconfigured_at}
use Rattle.vap_policy_set.proofs.report.put_in.Given as goal

abbrev pub invariant-loop-pair : goal.invariant-loop-pair
invariant-loop-pair l =
    l.report.items ++ flat_map (misconfigured_at l.policy.name) (drop l.pair-index l.policy.pairs)
    ≡ l.initial.report.items ++ flat_map (misconfigured_at l.policy.name) l.policy.pairs
