-- Which kinds definitions define.
use Rattle.std.specs.Prelude.{ℕ, Bool, ◌&&◌, if◌then◌else◌, codes, List, [], ◌∷◌, ◌++◌, Option, Some, None, Result, Ok, Err}
use Rattle.std.specs.List.{find, list_any}
use Rattle.std.specs.Str.{bytes_eq}
use Rattle.base_containers.specs.declared.text.Keyed.{Keyed}
use Rattle.serde_json.specs.Data as json
use Rattle.serde_json.specs.Data.{Data, Items}
use Rattle.serde_json.specs.Find.{get}
use Rattle.vap_match.specs.Parts.{text_in, items_in}
use Rattle.vap_schema.specs.Schemas.{object_type_of}
use Rattle.vap_read.specs.declared.object.Object.{Object}
use Rattle.vap_read_objects.specs.Definitions.{is_formed, name_in, named_schema}
use Rattle.vap_read_objects.specs.FixedKinds.{fixed_kinds}
use Rattle.vap_read_objects.specs.declared.kind.Kind.{Kind}

-- what is read, unless it is refused
abbrev pub accepted : {A F : Type 0} → Result A F → Option A
accepted (Ok a) = Some a
accepted (Err f) = None

-- the kind that a definition defines by a version with its schema; it has no type if the schema is refused
abbrev pub kind_of : Data → Data → Data → Kind
kind_of spec version schema = record {
  group = text_in (get (codes "group") spec);
  version = text_in (get (codes "name") version);
  kind = name_in (codes "kind") spec;
  plural = name_in (codes "plural") spec;
  namespaced = bytes_eq (text_in (get (codes "scope") spec)) (codes "Namespaced");
  object_type = accepted (object_type_of schema);
}

-- whether a kind has this group, version and name
abbrev pub is_named : List ℕ → List ℕ → List ℕ → Kind → Bool
is_named group version kind k = bytes_eq k.group group && bytes_eq k.version version && bytes_eq k.kind kind

-- the kind of this group, version and name
abbrev pub kind_named : List ℕ → List ℕ → List ℕ → List Kind → Option Kind
kind_named group version kind kinds = find (is_named group version kind) kinds

-- the kinds with one more, unless one of them has its group, version and name
unfoldable pub with_kind : Kind → List Kind → List Kind
with_kind k kinds = if list_any (is_named k.group k.version k.kind) kinds then kinds else kinds ++ k ∷ []

-- the kinds with that of a version, if it has a schema
abbrev pub with_schema : Data → Data → Option Data → List Kind → List Kind
with_schema spec version None kinds = kinds
with_schema spec version (Some schema) kinds = with_kind (kind_of spec version schema) kinds

-- the kinds with those of versions, first to last
abbrev pub with_versions : Data → Items → List Kind → List Kind
with_versions spec json.no_items kinds = kinds
with_versions spec (json.item v vs) kinds = with_versions spec vs (with_schema spec v (named_schema v) kinds)

-- the kinds with those of what a definition says, if it says anything and has all its members
abbrev pub with_spec : Option Data → List Kind → List Kind
with_spec None kinds = kinds
with_spec (Some spec) kinds = if is_formed spec then with_versions spec (items_in (get (codes "versions") spec)) kinds else kinds

-- the kinds with those of definitions, first to last
abbrev pub with_definitions : List (Keyed Object) → List Kind → List Kind
with_definitions [] kinds = kinds
with_definitions (o ∷ os) kinds = with_definitions os (with_spec (get (codes "spec") o.value.document) kinds)

-- the kinds that definitions, in the order of their names, define: of two of one group, version and name the first counts, and a
-- fixed one before all
abbrev pub kinds_of : List (Keyed Object) → List Kind
kinds_of os = with_definitions os fixed_kinds

-- ---- definition by definition

-- the kinds with others, first to last
abbrev pub with_kinds : List Kind → List Kind → List Kind
with_kinds [] kinds = kinds
with_kinds (k ∷ ks) kinds = with_kinds ks (with_kind k kinds)

-- the kind of a version, if it has a schema
abbrev pub kind_by : Data → Data → Option Data → List Kind
kind_by spec version None = []
kind_by spec version (Some schema) = kind_of spec version schema ∷ []

-- the kinds of versions, one after the other
abbrev pub kinds_by : Data → Items → List Kind
kinds_by spec json.no_items = []
kinds_by spec (json.item v vs) = kind_by spec v (named_schema v) ++ kinds_by spec vs

-- the kinds of what a definition says, if it says anything and has all its members
abbrev pub own_kinds : Option Data → List Kind
own_kinds None = []
own_kinds (Some spec) = if is_formed spec then kinds_by spec (items_in (get (codes "versions") spec)) else []

-- the kinds that a definition defines by itself
abbrev pub kinds_in : Object → List Kind
kinds_in o = own_kinds (get (codes "spec") o.document)
