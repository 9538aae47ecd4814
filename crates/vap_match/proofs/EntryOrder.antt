-- What is read under each name of an object is in the order of the names.
use Rattle.std.proofs.Common.{◌≡◌, List, [], ◌∷◌, refl, ap, subst}
use Rattle.base_containers.specs.Gathered.{Member, members_of, names_of, AreInOrder}
use Rattle.base_containers.specs.Keys.{keys_in, IsInKeyOrder}
use Rattle.std.specs.Cmp.Lexicographic.{slice_cmp}
use Rattle.std.specs.List.Sorted.{IsStrictlySortedBy}
use Rattle.std.specs.Ordering.{nat_cmp}
use Rattle.vap_match.specs.RequestReading.{lists_under}

names_same : (ms : List Member) → names_of ms ≡ keys_in (lists_under (members_of ms))
names_same [] = refl
names_same (m ∷ ms) = ap (λ ks. m.0.now ∷ ks) (names_same ms)

pub lists_in_order : (ms : List Member) → AreInOrder ms → IsInKeyOrder (lists_under (members_of ms))
lists_in_order ms s = subst (IsStrictlySortedBy (slice_cmp nat_cmp)) (names_same ms) s
