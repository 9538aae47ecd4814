use Rattle.std.proofs.Common.{[], ◌∷◌, codes, nat_cmp, refl}
use Rattle.std.specs.Cmp.Lexicographic.{slice_cmp}
use Rattle.std.specs.List.Sorted.{IsStrictlySortedBy}
use Rattle.base_containers.proofs.Order.{rises_from-decides}
use Rattle.cel_value.specs.declared.value.Value as V
use Rattle.vap_policy_programs.proofs.values.user_value.Goals as goal

-- the names are in their order
ordered : IsStrictlySortedBy (slice_cmp nat_cmp) (codes "extra" ∷ codes "groups" ∷ codes "uid" ∷ codes "username" ∷ [])
ordered =
    (rises_from-decides (record { key = codes "extra"; value = V.Null }) (
    record { key = codes "groups"; value = V.Null }
    ∷ record { key = codes "uid"; value = V.Null }
    ∷ record { key = codes "username"; value = V.Null }
    ∷ []
    )).0 refl

pub from_vec-requires : goal.from_vec-requires
from_vec-requires c =
    rw (
      c.in_ok-put_text-2.ensures,
      c.in_ok-put_text.ensures,
      c.in_ok-put-2.ensures,
      c.in_ok-put.ensures,
      c.in_ok-fields.ensures.items,
    ) ordered
