-- What a JSON document is at a type: its value, or its first fault in document order (Kubernetes, "Extend the
-- Kubernetes API with CustomResourceDefinitions", Validation and Field pruning).
use Rattle.std.specs.Prelude.{◌≡◌, ℕ, ◌+◌, ◌^◌, ◌&&◌, Bool, true, false, not, nat_lt, if◌then◌else◌, ℤ, pos}
use Rattle.std.specs.Prelude.{List, [], ◌∷◌, ◌++◌, map, Option, Some, None, is_some, option_to_list, Result, Ok, Err}
use Rattle.base_containers.specs.Failures.{Answers}
use Rattle.base_containers.specs.declared.failed.Failed.{Failed}
use Rattle.base_containers.specs.declared.text.Keyed.{Keyed}
use Rattle.base_containers.specs.Keys.{value_under}
use Rattle.serde_json.specs.Data as json
use Rattle.serde_json.specs.Data.{Data, Items, Members, Num}
use Rattle.serde_json.specs.Events.{items_len, members_len}
use Rattle.serde_json.specs.Find.{as_null}
use Rattle.cel_value.specs.Reading.{timestamp_of, date_of, duration_of}
use Rattle.cel_value.specs.Value.{code_points}
use Rattle.cel_value.specs.declared.value.Value as value
use Rattle.cel_value.specs.declared.value.Value.{Value}
use Rattle.cel_value.specs.declared.cel_type.Field.{Field}
use Rattle.cel_value.specs.declared.cel_type.CelType.{CelType, fold-CelType}
use Rattle.cel_value.specs.declared.cel_type.CelType.TheOpen.{CelType-F}
use Rattle.vap_schema.specs.Paths.{at_field, at_item}
use Rattle.vap_schema.specs.declared.fit_fault.FitFaultKind.{FitFaultKind}
use Rattle.vap_schema.specs.declared.fit_fault.FitFaultKind.TheVariants.{WrongKind, Missing, NullHere, OverLimit, IntRange}
use Rattle.vap_schema.specs.declared.fit_fault.FitFault.{FitFault}

infixl 10 ◌>>=◌
-- what comes next if there is no fault, and otherwise the fault
abbrev pub ◌>>=◌ : {A B E : Type 0} → Result A E → (A → Result B E) → Result B E
Ok a >>= next = next a
Err e >>= next = Err e

-- what a document at a path is
abbrev pub Reading : Type 0
Reading = List ℕ → Data → Result Value FitFault

-- of a type: whether null is one of its values, and what documents are at it
abbrev pub Reader : Type 0
Reader = Bool × Reading

-- whether a document is null
abbrev pub is_null : Data → Bool
is_null d = is_some (as_null d)

-- a fault of this kind at this path
abbrev pub fault : FitFaultKind → List ℕ → FitFault
fault kind path = record { path = path; kind = kind }

-- a document of a kind that the type does not have
abbrev pub misfit : List ℕ → Data → FitFault
misfit path d = fault (if is_null d then NullHere else WrongKind) path

-- an integer of 64 bits with a sign; a greater one without a sign is out of range, and all else is no integer
abbrev pub seen_int : List ℕ → Num → Result ℤ FitFault
seen_int path (json.unsigned n) = if nat_lt n (2 ^ 63) then Ok (pos n) else Err (fault IntRange path)
seen_int path (json.negative z) = Ok z
seen_int path (json.float x) = Err (fault WrongKind path)

-- the instant, or else that of a date's text, whose day begins in UTC
abbrev or_date : Option ℤ → List ℕ → Option ℤ
or_date None s = date_of s
or_date (Some n) s = Some n

-- the instant of a timestamp's text, or of a date's
unfoldable pub instant_of : List ℕ → Option ℤ
instant_of s = or_date (timestamp_of s) s

-- what a text spells, which is of the wrong kind if it spells nothing
abbrev pub seen_time : Option ℤ → List ℕ → Result ℤ FitFault
seen_time None path = Err (fault WrongKind path)
seen_time (Some n) path = Ok n

-- nothing, or the fault that a limit is passed
abbrev pub within : ℕ → ℕ → List ℕ → Result (Unit {0}) FitFault
within max n path = if nat_lt max n then Err (fault OverLimit path) else Ok tt

-- a text of at most so many code points
abbrev pub seen_text : ℕ → List ℕ → List ℕ → Result (List ℕ) FitFault
seen_text max path s = do
  _ ← within max (code_points s) path
  Ok s

-- the items of a list, from a place on
abbrev pub seen_items : Reading → List ℕ → ℕ → Items → Result (List Value) FitFault
seen_items here path place json.no_items = Ok []
seen_items here path place (json.item d ds) = do
  v ← here (at_item path place) d
  vs ← seen_items here path (place + 1) ds
  Ok (v ∷ vs)

-- the entry of a member at a path, under its name
abbrev pub seen_under : Reading → List ℕ → List ℕ → Data → Result (Keyed Value) FitFault
seen_under here path k d = do
  v ← here path d
  Ok (record { key = k; value = v })

-- an entry of a map: that its key is too long is reported before a fault of what is under it
abbrev pub seen_entry : Reading → ℕ → List ℕ → List ℕ → Data → Result (Keyed Value) FitFault
seen_entry here key_max path k d = do
  _ ← within key_max (code_points k) (at_field path k)
  seen_under here (at_field path k) k d

-- the entries of a map
abbrev pub seen_entries : Reading → ℕ → List ℕ → Members → Result (List (Keyed Value)) FitFault
seen_entries here key_max path json.no_members = Ok []
seen_entries here key_max path (json.member k d ms) = do
  e ← seen_entry here key_max path k d
  es ← seen_entries here key_max path ms
  Ok (e ∷ es)

-- an array, which may not have too many items
abbrev pub seen_list : Reading → ℕ → List ℕ → Items → Result (List Value) FitFault
seen_list here max path ds = do
  _ ← within max (items_len ds) path
  seen_items here path 0 ds

-- an object at a map's type, which may not have too many entries
abbrev pub seen_map : Reading → ℕ → ℕ → List ℕ → Members → Result (List (Keyed Value)) FitFault
seen_map here max key_max path ms = do
  _ ← within max (members_len ms) path
  seen_entries here key_max path ms

-- null for an optional field that has no null counts as absent
abbrev pub is_absent : Bool → Reader → Data → Bool
is_absent required reader d = is_null d && (not required && not reader.0)

-- the entry of a field, if its member does not count as absent
abbrev pub seen_field : Bool → Reader → List ℕ → List ℕ → Data → Result (Option (Keyed Value)) FitFault
seen_field required reader path k d = if is_absent required reader d then Ok None else (do
  e ← seen_under reader.1 (at_field path k) k d
  Ok (Some e))

-- the entry of a member whose name has this field, if it has one
abbrev pub seen_member : Option (Field Reader) → List ℕ → List ℕ → Data → Result (Option (Keyed Value)) FitFault
seen_member None path k d = Ok None
seen_member (Some f) path k d = seen_field f.required f.cel_type path k d

-- the entries of an object: members whose names have no field are dropped
abbrev pub seen_members : List (Keyed (Field Reader)) → List ℕ → Members → Result (List (Keyed Value)) FitFault
seen_members fields path json.no_members = Ok []
seen_members fields path (json.member k d ms) = do
  e ← seen_member (value_under k fields) path k d
  es ← seen_members fields path ms
  Ok (option_to_list e ++ es)

-- nothing, or the fault of the first required field that is absent
abbrev pub all_there : List (Keyed (Field Reader)) → List ℕ → List (Keyed Value) → Result (Unit {0}) FitFault
all_there [] path es = Ok tt
all_there (f ∷ fields) path es = if f.value.required
    && not (is_some (value_under f.key es)) then Err (fault Missing (at_field path f.key)) else all_there fields path es

-- the entries, unless a required field is absent
abbrev pub if_all_there : List (Keyed (Field Reader)) → List ℕ → List (Keyed Value) → Result (List (Keyed Value)) FitFault
if_all_there fields path es = do
  _ ← all_there fields path es
  Ok es

-- an object at an object's type: a field's absence is found after all that is there
abbrev pub seen_object : List (Keyed (Field Reader)) → List ℕ → Members → Result (List (Keyed Value)) FitFault
seen_object fields path ms = do
  es ← seen_members fields path ms
  if_all_there fields path es

-- one level of both, where a type inside is what documents are at it
abbrev pub seen_at : CelType-F Reader → Reading
seen_at CelType-F.Opaque path d = Ok value.Opaque
seen_at (CelType-F.Nullable item) path d = if is_null d then Ok value.Null else item.1 path d
seen_at CelType-F.Null path json.null = Ok value.Null
seen_at CelType-F.Bool path (json.boolean b) = Ok (value.Bool b)
seen_at CelType-F.Int path (json.number n) = do
  z ← seen_int path n
  Ok (value.Int z)
seen_at (CelType-F.Text max) path (json.string s) = do
  text ← seen_text max path s
  Ok (value.Text text)
seen_at CelType-F.Timestamp path (json.string s) = do
  n ← seen_time (instant_of s) path
  Ok (value.Timestamp n)
seen_at CelType-F.Duration path (json.string s) = do
  n ← seen_time (duration_of s) path
  Ok (value.Duration n)
seen_at (CelType-F.List max plain item) path (json.array ds) = do
  vs ← seen_list item.1 max path ds
  Ok (value.List vs)
seen_at (CelType-F.Map max key_max item) path (json.object ms) = do
  es ← seen_map item.1 max key_max path ms
  Ok (value.Map es)
seen_at (CelType-F.Object fields) path (json.object ms) = do
  es ← seen_object fields path ms
  Ok (value.Object es)
seen_at CelType-F.Never path d = Err (misfit path d)
seen_at CelType-F.Uint path d = Err (misfit path d)
seen_at _ path d = Err (misfit path d)

-- whether null is among the values of one level
abbrev pub has_null : {X : Type 0} → CelType-F X → Bool
has_null CelType-F.Null = true
has_null (CelType-F.Nullable item) = true
has_null _ = false

-- one level, with the reader of each type inside in its place
abbrev pub reader_step : CelType-F Reader → Reader
reader_step t = (has_null t, seen_at t)

-- of a type: whether it has null, and what documents are at it
abbrev pub reader_of : CelType → Reader
reader_of = fold-CelType Reader reader_step

-- what a document at a path is at a type: its value, or its first fault
abbrev pub seen : List ℕ → CelType → Data → Result Value FitFault
seen path t = (reader_of t).1 path

-- a field with the reader of its type
abbrev pub field_reader : Field CelType → Field Reader
field_reader f = record { required = f.required; cel_type = reader_of f.cel_type }

-- the fields of an object type, each with its reader
abbrev pub readers_of : List (Keyed (Field CelType)) → List (Keyed (Field Reader))
readers_of fields = map (λ f. record { key = f.key; value = field_reader f.value }) fields

-- whatever the answer of the part says, the answer of the whole says what a step makes of it
abbrev pub Carries : {A B F : Type 0} → Result A (Failed F) → Result B (Failed F) → (A → Result B F) → Type 0
Carries part whole step = (want : Result _ _) → Answers want part → Answers (want >>= step) whole
