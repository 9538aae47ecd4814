use Rattle.std.proofs.Common.{◌++◌, drop}
use Rattle.std.specs.List.{flat_map}
use Rattle.vap_policy_set.specs.Places.{NameSame, group_places}
use Rattle.vap_policy_set.proofs.places.put_rule.Given as goal

abbrev pub invariant-loop-group : goal.invariant-loop-group
invariant-loop-group l =
    NameSame (l.places.items ++ flat_map (group_places l.rule.resources) (drop l.group-index l.rule.api_groups))
    (l.initial.places.items ++ flat_map (group_places l.rule.resources) l.rule.api_groups)
