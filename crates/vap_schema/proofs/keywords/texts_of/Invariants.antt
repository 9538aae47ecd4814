use Rattle.std.proofs.Common.{◌≡◌, ℕ, List, drop}
use Rattle.std.specs.Prelude.{◌||◌}
use Rattle.serde_json.specs.View.{items_view}
use Rattle.vap_schema.specs.Schemas.{is_named, is_among}
use Rattle.vap_schema.proofs.keywords.texts_of.Given as goal

abbrev pub invariant-loop-name : goal.invariant-loop-name
invariant-loop-name l =
    (k : List ℕ) → (is_named k l.texts.items || is_among k (items_view (drop l.name-index l.names))) ≡ is_among k (items_view l.names)
