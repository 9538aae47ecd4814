use Rattle.std.proofs.Common.{◌≡◌, ◌++◌, drop, map}
use Rattle.vap_policy_set.specs.Index.{empty_entry}
use Rattle.vap_policy_set.proofs.index.empty_entries.Given as goal

abbrev pub invariant-loop-place : goal.invariant-loop-place
invariant-loop-place l = l.entries.items ++ map empty_entry (drop l.place-index l.places) ≡ map empty_entry l.places
