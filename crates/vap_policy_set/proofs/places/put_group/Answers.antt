use Rattle.std.proofs.Common.{◌++◌, arith, ap, ◌∙◌}
use Rattle.std.specs.List.{flat_map, list_any}
use Rattle.vap_policy_set.specs.Places.{is_place}
use Rattle.vap_policy_set.proofs.SamePlaces.{each_place, names_all, one_place}
use Rattle.vap_policy_set.proofs.places.put_group.Goals as goal

pub returns : goal.returns
returns c = λ g r.
    names_all (one_place c.args.group.now) c.args.patterns.now c.loop-pattern.pattern-index c.loop-pattern.places.items
    (c.args.places.now.items ++ flat_map (one_place c.args.group.now) c.args.patterns.now) (omega (arith, c.loop-pattern-test.false))
    c.loop-pattern.invariant g r
    ∙ ap (λ ks. list_any (is_place g r) (c.args.places.now.items ++ ks)) (each_place c.args.patterns.now c.args.group.now)
