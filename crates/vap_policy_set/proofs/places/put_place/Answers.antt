use Rattle.std.proofs.Common.{ap, sym, ◌∙◌}
use Rattle.std.specs.List.{list_any}
use Rattle.vap_policy_set.specs.Places.{is_place}
use Rattle.vap_policy_set.proofs.SamePlaces.{put_again}
use Rattle.vap_policy_set.proofs.places.put_place.Goals as goal

pub returns-then-is_last : goal.returns-then-is_last
returns-then-is_last c =
    put_again c.args.places.now.items (record { group = c.args.group.now; resource = c.args.resource.now })
    (
    ap (list_any (is_place c.args.group.now c.args.resource.now)) (sym c.as_slice.ensures.value)
    ∙ c.is_last.ensures c.if-is_last.true
    )
