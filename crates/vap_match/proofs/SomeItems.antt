-- A list that has an item.
use Rattle.std.proofs.Common.{◌≡◌, ◌≤◌, true, List, [], ◌∷◌, length, refl, arith}
use Rattle.serde_json.specs.View.{items_view}
use Rattle.serde_json.specs.declared.value.Value.{Value as Json}
use Rattle.vap_match.specs.Forms.{has_items}

pub some_there : (vs : List Json) → 1 ≤ length vs → true ≡ has_items (items_view vs)
some_there [] h = absurd (omega arith)
some_there (v ∷ vs) h = refl
