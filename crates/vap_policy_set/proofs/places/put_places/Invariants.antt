use Rattle.std.proofs.Common.{◌++◌, drop}
use Rattle.std.specs.List.{flat_map}
use Rattle.vap_policy_set.specs.Places.{NameSame}
use Rattle.vap_policy_set.proofs.SamePlaces.{itself}
use Rattle.vap_policy_set.proofs.places.put_places.Given as goal

abbrev pub invariant-loop-place : goal.invariant-loop-place
invariant-loop-place l =
    NameSame (l.places.items ++ flat_map itself (drop l.place-index l.named)) (l.initial.places.items ++ flat_map itself l.named)
