use Rattle.std.proofs.Common.{◌≡◌, ◌+◌, ◌-◌, ◌^◌, ◌<◌, drop, take}
use Rattle.std.specs.Prelude.{min}
use Rattle.cel_estimate.specs.Estimate.{keys_most}
use Rattle.cel_estimate.proofs.measure.most_of_keys.Given as goal

-- what was added up, and the keys that are left, with 1 for the map
abbrev pub invariant-loop-entry : goal.invariant-loop-entry
invariant-loop-entry l =
    (l.sum < 2 ^ 64)
    × (min (l.sum + keys_most (drop l.entry-index l.entries)) (2 ^ 64 - 1) ≡ min (keys_most l.entries) (2 ^ 64 - 1))
