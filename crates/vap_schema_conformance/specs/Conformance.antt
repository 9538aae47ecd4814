-- Which documents are values of a type, and why others are none (Kubernetes, "Extend the Kubernetes API with
-- CustomResourceDefinitions", Validation).
use Rattle.std.specs.Prelude.{◌≡◌, ◌≤◌, ℕ, Bool, true, false, not, ◌&&◌, ◌||◌, List, [], ◌∷◌, Option, Some, None, Result, Ok, Err}
use Rattle.std.specs.Str.{bytes_eq}
use Rattle.base_containers.specs.declared.text.Keyed.{Keyed}
use Rattle.base_containers.specs.Keys.{value_under}
use Rattle.serde_json.specs.Data as json
use Rattle.serde_json.specs.Data.{Data, Items, Members}
use Rattle.cel_value.specs.Value.{code_points}
use Rattle.cel_value.specs.declared.cel_type.Field.{Field}
use Rattle.cel_value.specs.declared.cel_type.CelType.{CelType}
use Rattle.vap_schema.specs.Seen.{is_absent, reader_of, seen}

-- why there is no value, if there is none
abbrev pub fault_in : {A F : Type 0} → Result A F → Option F
fault_in (Ok a) = None
fault_in (Err f) = Some f

-- a document is a value of a type, at whatever path
abbrev pub IsValueOf : CelType → Data → Type 0
IsValueOf t d = (path : List ℕ) → fault_in (seen path t d) ≡ None

-- each item is a value of a type
abbrev pub AreItemsOf : CelType → Items → Type 0
AreItemsOf t json.no_items = Unit {0}
AreItemsOf t (json.item d ds) = IsValueOf t d × AreItemsOf t ds

-- each member is a value of a type, under a name of at most so many code points
abbrev pub AreEntriesOf : ℕ → CelType → Members → Type 0
AreEntriesOf key_max t json.no_members = Unit {0}
AreEntriesOf key_max t (json.member k d ms) = (code_points k ≤ key_max) × IsValueOf t d × AreEntriesOf key_max t ms

-- a member is a value of the field that has its name, if there is one, or counts as absent
abbrev pub IsMemberOf : Option (Field CelType) → Data → Type 0
IsMemberOf None d = Unit {0}
IsMemberOf (Some f) d = is_absent f.required (reader_of f.cel_type) d ≡ false → IsValueOf f.cel_type d

-- each member is one of the field that has its name
abbrev pub AreMembersOf : List (Keyed (Field CelType)) → Members → Type 0
AreMembersOf fields json.no_members = Unit {0}
AreMembersOf fields (json.member k d ms) = IsMemberOf (value_under k fields) d × AreMembersOf fields ms

-- whether some member has a name
abbrev pub has_member : List ℕ → Members → Bool
has_member name json.no_members = false
has_member name (json.member k d ms) = bytes_eq k name || has_member name ms

-- whether each required field has a member
abbrev pub has_required : List (Keyed (Field CelType)) → Members → Bool
has_required [] ms = true
has_required (f ∷ fields) ms = (not f.value.required || has_member f.key ms) && has_required fields ms
