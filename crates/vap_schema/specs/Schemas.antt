-- What type a structural schema gives (Kubernetes, "Specifying a structural schema"; OpenAPI v3, "Schema Object").
use Rattle.std.specs.Prelude.{◌≡◌, ℕ, zero, suc, ◌||◌, Bool, false, if◌then◌else◌, List, [], ◌∷◌, Option, Some, None}
use Rattle.std.specs.Prelude.{Result, Ok, Err}
use Rattle.std.specs.Borrow.{Bor}
use Rattle.std.specs.Str.{bytes_eq}
use Rattle.std.specs.List.{list_any}
use Rattle.std.specs.List.Sorted.{IsSorted}
use Rattle.std.specs.Ordering.{nat_cmp}
use Rattle.std.specs.Cmp.Lexicographic.{slice_cmp}
use Rattle.base_containers.specs.declared.text.Keyed.{Keyed}
use Rattle.serde_json.specs.Data as json
use Rattle.serde_json.specs.Data.{Data, Items, Members}
use Rattle.serde_json.specs.Find.{as_str}
use Rattle.cel_value.specs.declared.cel_type.Field.{Field}
use Rattle.cel_value.specs.declared.cel_type.CelType as type
use Rattle.cel_value.specs.declared.cel_type.CelType.{CelType}
use Rattle.vap_schema.specs.Seen.{◌>>=◌}
use Rattle.vap_schema.specs.FixedTypes.{with_fixed_fields}
use Rattle.vap_schema.specs.Forms as form
use Rattle.vap_schema.specs.Forms.{Form, nested_form, root_form}
use Rattle.vap_schema.specs.Keywords.{fault_of}
use Rattle.vap_schema.specs.declared.own_fault.OwnFault.{OwnFault}
use Rattle.vap_schema.specs.declared.schema_fault.SchemaFault.{SchemaFault}
use Rattle.vap_schema.specs.declared.schema_fault.SchemaFault.TheVariants.{TooDeep}

-- what schemas inside give
abbrev pub Inner : Type 0
Inner = Data → Result CelType SchemaFault

-- ---- objects

-- whether this is the text
abbrev pub is_text : List ℕ → Option (List ℕ) → Bool
is_text s (Some t) = bytes_eq t s
is_text s None = false

-- whether a name is one of these
abbrev pub is_among : List ℕ → Items → Bool
is_among name json.no_items = false
is_among name (json.item d ds) = is_text name (as_str d) || is_among name ds

-- a field, with the type that its schema gives
abbrev pub field_of : Inner → Bool → List ℕ → Data → Result (Keyed (Field CelType)) SchemaFault
field_of inner required k d = do
  t ← inner d
  Ok (record { key = k; value = record { required = required; cel_type = t } })

-- the fields of an object, in the order of their names, by which names are required
abbrev pub fields_of : Inner → (List ℕ → Bool) → Members → Result (List (Keyed (Field CelType))) SchemaFault
fields_of inner is_required json.no_members = Ok []
fields_of inner is_required (json.member k d ms) = do
  f ← field_of inner (is_required k) k d
  more ← fields_of inner is_required ms
  Ok (f ∷ more)

-- an object of the fields that its properties name
abbrev pub record_type : Inner → Items → Members → Result CelType SchemaFault
record_type inner required properties = do
  fields ← fields_of inner (λ k. is_among k required) properties
  Ok (type.Object fields)

-- what is under any name: anything, or what a schema gives
abbrev pub entry_type : Inner → Data → Result CelType SchemaFault
entry_type inner (json.boolean b) = Ok type.Opaque
entry_type inner d = inner d

-- an object of entries under any names
abbrev pub map_type : Inner → ℕ → Data → Result CelType SchemaFault
map_type inner max entry = do
  item ← entry_type inner entry
  Ok (type.Map max 1048576 item)

-- ---- types

-- the type of a form, by what schemas inside it give
abbrev pub form_type : Inner → Form → Result CelType SchemaFault
form_type inner form.anything = Ok type.Opaque
form_type inner form.truth = Ok type.Bool
form_type inner form.whole = Ok type.Int
form_type inner form.timestamp = Ok type.Timestamp
form_type inner form.duration = Ok type.Duration
form_type inner (form.text max) = Ok (type.Text max)
form_type inner (form.list max plain items) = do
  item ← inner items
  Ok (type.List max plain item)
form_type inner (form.map max entry) = map_type inner max entry
form_type inner (form.fields required properties) = record_type inner required properties
form_type inner form.bare = Ok (type.Object [])

-- a type, or the one that null has too
abbrev pub or_null : Bool → CelType → Result CelType SchemaFault
or_null nullable t = Ok (if nullable then type.Nullable t else t)

-- the type by what a schema that is no root says, or the fault that it has itself
abbrev pub nested_type : Inner → Result (Bool × Form) OwnFault → Result CelType SchemaFault
nested_type inner (Ok p) = form_type inner p.1 >>= or_null p.0
nested_type inner (Err f) = Err (fault_of f)

-- the type of a schema that is no root, if at most so many schemas may be inside each other
unfoldable pub schema_type : ℕ → Data → Result CelType SchemaFault
schema_type zero d = Err TooDeep
schema_type (suc levels) d = nested_type (schema_type levels) (nested_form d)

-- the type by what a root says, with the fields that each object has
abbrev pub root_type : Inner → Result Form OwnFault → Result CelType SchemaFault
root_type inner (Ok f) = do
  t ← form_type inner f
  Ok (with_fixed_fields t)
root_type inner (Err f) = Err (fault_of f)

-- the type of the objects whose root schema this is: at most 100 schemas are inside each other
abbrev pub object_type_of : Data → Result CelType SchemaFault
object_type_of d = root_type (schema_type 99) (root_form d)

-- ---- names in their order

-- whether a name is one of these texts
abbrev pub is_named : List ℕ → List (Bor (List ℕ)) → Bool
is_named name texts = list_any (λ t. bytes_eq t.now name) texts

-- these texts are in their order
abbrev pub IsInTextOrder : List (Bor (List ℕ)) → Type 0
IsInTextOrder texts = IsSorted (λ s t. slice_cmp nat_cmp s.now t.now) texts

-- these texts are the names
abbrev pub AreTexts : List (Bor (List ℕ)) → Items → Type 0
AreTexts texts names = (k : List ℕ) → is_named k texts ≡ is_among k names
