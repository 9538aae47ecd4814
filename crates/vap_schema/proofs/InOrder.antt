-- The members of an object that is held are in the order of their names.
use Rattle.std.proofs.Common.{◌≡◌, List, [], ◌∷◌, String, Global, string_bytes, string_cmp}
use Rattle.std.specs.List.{AllByRecursion}
use Rattle.std.specs.List.Sorted.{IsStrictlySortedBy}
use Rattle.std.specs.Map.{keys_of}
use Rattle.std.specs.declared.cmp.Ordering.TheVariants.{Less}
use Rattle.base_containers.proofs.Order.{Below}
use Rattle.serde_json.specs.View.{members_view}
use Rattle.serde_json.specs.declared.value.Value as json
use Rattle.vap_schema.proofs.Ordered.{IsInOrder, names_in}

abbrev Member : Type 0
Member = String Global × json.Value

names_below : (k : String Global) (es : List Member) → AllByRecursion (λ y. string_cmp k y ≡ Less) (keys_of es)
    → AllByRecursion (Below (string_bytes k)) (names_in (members_view es))
names_below k [] h = tt
names_below k (e ∷ es) h = (h.0, names_below k es h.1)

pub names_in_order : (es : List Member) → IsStrictlySortedBy string_cmp (keys_of es) → IsInOrder (names_in (members_view es))
unfolding IsStrictlySortedBy
names_in_order [] s = tt
names_in_order (e ∷ es) s = (names_below e.0 es s.0, names_in_order es s.1)
