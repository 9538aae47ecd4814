use Rattle.std.proofs.Common.{◌++◌, drop}
use Rattle.std.specs.List.{flat_map}
use Rattle.vap_policy_set.specs.Places.{NameSame, rule_places}
use Rattle.vap_policy_set.proofs.places.put_rules.Given as goal

abbrev pub invariant-loop-rule : goal.invariant-loop-rule
invariant-loop-rule l =
    NameSame (l.places.items ++ flat_map rule_places (drop l.rule-index l.rules)) (l.initial.places.items ++ flat_map rule_places l.rules)
