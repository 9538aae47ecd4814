use Rattle.std.proofs.Common.{◌≡◌, ◌+◌, ◌-◌, ◌^◌, ◌<◌, drop}
use Rattle.std.specs.Prelude.{min}
use Rattle.cel_value.specs.Turns.{by_turns}
use Rattle.cel_estimate.specs.Estimate.{estimates_of}
use Rattle.cel_estimate.proofs.measure.+estimating.Given as goal

-- what was added up, and what is left
abbrev pub invariant-most_of_items-loop-item : goal.invariant-most_of_items-loop-item
invariant-most_of_items-loop-item l =
    (l.sum < 2 ^ 64)
    × (min (l.sum + estimates_of (drop l.item-index l.items)) (2 ^ 64 - 1) ≡ min (estimates_of l.items) (2 ^ 64 - 1))

abbrev pub invariant-most_of_entries-loop-entry : goal.invariant-most_of_entries-loop-entry
invariant-most_of_entries-loop-entry l =
    (l.sum < 2 ^ 64)
    × (min (l.sum + estimates_of (by_turns (drop l.entry-index l.entries))) (2 ^ 64 - 1)
    ≡ min (estimates_of (by_turns l.entries)) (2 ^ 64 - 1))
