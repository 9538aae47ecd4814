use Rattle.std.proofs.Common.{◌≡◌, ◌++◌, drop}
use Rattle.vap_policy_set.proofs.places.owned_places.Given as goal

abbrev pub invariant-loop-place : goal.invariant-loop-place
invariant-loop-place l = l.owned.items ++ drop l.place-index l.places ≡ l.places
