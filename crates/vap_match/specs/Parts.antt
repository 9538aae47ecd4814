-- What is in a document or under a member, empty if its form is another.
use Rattle.std.specs.Prelude.{ℕ, List, [], ◌∷◌, Option, Some, None, unwrap_or, option_map, option_and_then}
use Rattle.std.specs.Borrow.{Bor}
use Rattle.serde_json.specs.Data as json
use Rattle.serde_json.specs.Data.{Data, Items}
use Rattle.serde_json.specs.Find.{as_str, as_array}
use Rattle.serde_json.specs.View.{view}
use Rattle.serde_json.specs.declared.value.Value.{Value as Json}

-- the text of a member, if it is one
abbrev pub optional_text : Option Data → Option (List ℕ)
optional_text d = option_and_then as_str d

-- the text, or none
abbrev pub text_of : Data → List ℕ
text_of d = unwrap_or (as_str d) []

-- the text of a member
abbrev pub text_in : Option Data → List ℕ
text_in None = []
text_in (Some d) = text_of d

-- the items of a list
abbrev pub items_of : Data → Items
items_of d = unwrap_or (as_array d) json.no_items

-- the items of a member
abbrev pub items_in : Option Data → Items
items_in None = json.no_items
items_in (Some d) = items_of d

-- what each item gives
abbrev pub each_item : {A : Type 0} → (Data → A) → Items → List A
each_item f json.no_items = []
each_item f (json.item d ds) = f d ∷ each_item f ds

-- the texts of a list that is a member
abbrev pub texts_in : Option Data → List (List ℕ)
texts_in d = each_item text_of (items_in d)

-- a document that is lent, if one is
abbrev pub lent : Option (Bor Json) → Option Data
lent v = option_map (λ w. view w.now) v
