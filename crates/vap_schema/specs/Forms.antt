-- What a structural schema says by its own keywords (Kubernetes, "Specifying a structural schema"). The schemas inside it are not read.
use Rattle.std.specs.Prelude.{◌≡◌, ℕ, ◌||◌, Bool, true, false, if◌then◌else◌, Option, Some, None, Result, Ok, Err}
use Rattle.serde_json.specs.Data as json
use Rattle.serde_json.specs.Data.{Data, Items, Members}
use Rattle.serde_json.specs.View.{view, items_view, members_view}
use Rattle.vap_schema.specs.Seen.{◌>>=◌}
use Rattle.vap_schema.specs.Keywords.{value_of, understood, flag, limit, absent, stated_word, stated_format, is_plain}
use Rattle.vap_schema.specs.Keywords.{required_names, properties_of, entry_of}
use Rattle.vap_schema.specs.declared.form.Form.{Form as LentForm}
use Rattle.vap_schema.specs.declared.form.Form.TheVariants as lent
use Rattle.vap_schema.specs.declared.own_fault.Keyword.TheVariants as keyword
use Rattle.vap_schema.specs.declared.own_fault.OwnFault.{OwnFault}
use Rattle.vap_schema.specs.declared.own_fault.OwnFault.TheVariants as own
use Rattle.vap_schema.specs.declared.keywords.TimeFormat.{TimeFormat}
use Rattle.vap_schema.specs.declared.keywords.TimeFormat.TheVariants as format
use Rattle.vap_schema.specs.declared.keywords.TypeWord.{TypeWord}
use Rattle.vap_schema.specs.declared.keywords.TypeWord.TheVariants as word

-- what a schema describes, apart from null
pub data Form : Type 0 where
  anything : Form
  truth : Form
  whole : Form
  timestamp : Form
  duration : Form
  text : ℕ → Form
  -- the most items, whether it is plain, and the schema of the items
  list : ℕ → Bool → Data → Form
  -- the most entries, and true or the schema of what is under each name
  map : ℕ → Data → Form
  -- the required names, and the properties
  fields : Items → Members → Form
  -- an object without fields
  bare : Form

-- a schema of no type: anything may be there, and nothing is read of it, if one of two keywords says so; else it is refused
abbrev pub untyped_form : Data → Result Form OwnFault
untyped_form d = do
  kept ← flag keyword.PreserveUnknownFields d
  either ← flag keyword.IntOrString d
  if kept || either then Ok anything else Err own.NoType

-- a text by the time that it spells, whose length has no limit of its own, or by its limit
abbrev pub text_by : Option TimeFormat → Data → Result Form OwnFault
text_by (Some format.Timestamp) d = Ok timestamp
text_by (Some format.Duration) d = Ok duration
text_by None d = do
  max ← limit keyword.MaxLength 1048576 d
  Ok (text max)

-- a text: its format is read first
abbrev pub text_form : Data → Result Form OwnFault
text_form d = do
  time ← stated_format d
  text_by time d

-- a list, a set or an associative list
abbrev pub list_form : Data → Result Form OwnFault
list_form d = do
  max ← limit keyword.MaxItems 524287 d
  plain ← is_plain d
  items ← understood keyword.Items (value_of keyword.Items d)
  Ok (list max plain items)

-- an object by its properties or by what is under any name; it may not have both, and without either it is kept as it is, or has
-- no fields
abbrev pub object_by : Option Members → Items → Option Data → ℕ → Bool → Result Form OwnFault
object_by (Some properties) required None max kept = Ok (fields required properties)
object_by None required (Some entry) max kept = Ok (map max entry)
object_by None required None max kept = Ok (if kept then anything else bare)
object_by (Some properties) required (Some entry) max kept = Err (own.Keyword keyword.AdditionalProperties)

-- an object: every keyword that some object has is read, no matter which of them then count
abbrev pub object_form : Data → Result Form OwnFault
object_form d = do
  properties ← properties_of d
  required ← required_names d
  entry ← entry_of d
  max ← limit keyword.MaxProperties 524287 d
  kept ← flag keyword.PreserveUnknownFields d
  object_by properties required entry max kept

-- the form by the word of `type`
abbrev pub form_by : Option TypeWord → Data → Result Form OwnFault
form_by None d = untyped_form d
form_by (Some word.Boolean) d = Ok truth
form_by (Some word.Integer) d = Ok whole
form_by (Some word.Number) d = Ok anything
form_by (Some word.String) d = text_form d
form_by (Some word.Array) d = list_form d
form_by (Some word.Object) d = object_form d

-- the form of a schema, apart from null
abbrev pub own_form : Data → Result Form OwnFault
own_form d = do
  _ ← absent keyword.Reference d
  w ← stated_word d
  form_by w d

-- whether this is an object
abbrev pub is_object : Data → Bool
is_object (json.object ms) = true
is_object _ = false

-- the form of a root, whose `nullable` is not read
abbrev pub root_form : Data → Result Form OwnFault
root_form d = if is_object d then own_form d else Err own.NoObject

-- for a schema that is no root: whether null has its type too, and its form
abbrev pub nested_form : Data → Result (Bool × Form) OwnFault
nested_form d = if is_object d then (do
  nullable ← flag keyword.Nullable d
  f ← own_form d
  Ok (nullable, f)) else Err own.NoObject

-- ---- what the code answers

-- a form that is lent, as it is seen
abbrev pub form_in : LentForm → Form
form_in lent.Opaque = anything
form_in lent.Bool = truth
form_in lent.Int = whole
form_in lent.Timestamp = timestamp
form_in lent.Duration = duration
form_in (lent.Text max) = text max
form_in (lent.List max plain items) = list max plain (view items.now)
form_in (lent.Map max entry) = map max (view entry.now)
form_in (lent.Record required properties) = fields (items_view required.now) (members_view properties.now.entries)
form_in lent.Bare = bare

-- the answer is this form, or this fault
abbrev pub FormIs : Result Form OwnFault → Result LentForm OwnFault → Type 0
FormIs want (Ok f) = want ≡ Ok (form_in f)
FormIs want (Err e) = want ≡ Err e

-- the same, and beside the form whether null has the type too
abbrev pub NestedIs : Result (Bool × Form) OwnFault → Result (Bool × LentForm) OwnFault → Type 0
NestedIs want (Ok p) = want ≡ Ok (p.0, form_in p.1)
NestedIs want (Err e) = want ≡ Err e
