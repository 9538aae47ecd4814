-- The order of places.
use Rattle.std.specs.Ordering.{nat_cmp, on, then_cmp}
use Rattle.std.specs.declared.cmp.Ordering.{Ordering}
use Rattle.std.specs.Cmp.Lexicographic.{slice_cmp}
use Rattle.vap_policy_set.specs.declared.places.Place.{Place}

-- places by group, then by resource
abbrev pub place_cmp : Place → Place → Ordering
place_cmp = then_cmp (on (λ k. k.group) (slice_cmp nat_cmp)) (on (λ k. k.resource) (slice_cmp nat_cmp))
