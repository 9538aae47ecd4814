use Rattle.std.proofs.Common.{◌++◌, drop}
use Rattle.std.specs.List.{flat_map}
use Rattle.vap_policy_set.specs.Places.{NameSame}
use Rattle.vap_policy_set.proofs.SamePlaces.{one_place}
use Rattle.vap_policy_set.proofs.places.put_group.Given as goal

abbrev pub invariant-loop-pattern : goal.invariant-loop-pattern
invariant-loop-pattern l =
    NameSame (l.places.items ++ flat_map (one_place l.group) (drop l.pattern-index l.patterns))
    (l.initial.places.items ++ flat_map (one_place l.group) l.patterns)
