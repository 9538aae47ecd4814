use Rattle.std.proofs.Common.{◌++◌, arith, ap, ◌∙◌}
use Rattle.std.specs.List.{flat_map, list_any}
use Rattle.vap_policy_set.specs.Places.{is_place}
use Rattle.vap_policy_set.proofs.SamePlaces.{each_itself, itself, names_all}
use Rattle.vap_policy_set.proofs.places.put_places.Goals as goal

pub returns : goal.returns
returns c = λ g r.
    names_all itself c.args.named.now c.loop-place.place-index c.loop-place.places.items
    (c.args.places.now.items ++ flat_map itself c.args.named.now) (omega (arith, c.loop-place-test.false)) c.loop-place.invariant g r
    ∙ ap (λ ks. list_any (is_place g r) (c.args.places.now.items ++ ks)) (each_itself c.args.named.now)
