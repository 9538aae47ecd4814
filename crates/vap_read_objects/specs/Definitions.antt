-- What a CustomResourceDefinition says (Kubernetes API reference, "CustomResourceDefinition").
use Rattle.std.specs.Prelude.{ℕ, Bool, ◌&&◌, ◌||◌, if◌then◌else◌, codes, List, Option, None, option_and_then}
use Rattle.std.specs.Str.{bytes_eq}
use Rattle.serde_json.specs.Data.{Data, Items}
use Rattle.serde_json.specs.Events.{items_len}
use Rattle.serde_json.specs.Find.{get}
use Rattle.vap_match.specs.Forms.{there_and, is_text}
use Rattle.vap_match.specs.Parts.{text_in, items_in}
use Rattle.vap_read.specs.declared.key.Key.{Key}

-- whether an object of this key is a definition
abbrev pub is_definition : Key → Bool
is_definition k =
    bytes_eq k.api_version (codes "apiextensions.k8s.io/v1") && bytes_eq k.kind (codes "CustomResourceDefinition")

-- the versions of a definition, whatever their form
abbrev pub versions_of : Data → Items
versions_of d = items_in (option_and_then (get (codes "versions")) (get (codes "spec") d))

-- how many there are
abbrev pub version_count : Data → ℕ
version_count d = items_len (versions_of d)

-- the names of a kind are there: that of one object, and that of many
abbrev pub has_names : Data → Bool
has_names d = there_and is_text (get (codes "kind") d) && there_and is_text (get (codes "plural") d)

-- the words of `scope`
abbrev pub is_scope : List ℕ → Bool
is_scope w = bytes_eq w (codes "Namespaced") || bytes_eq w (codes "Cluster")

-- whether what a definition says has all its members, apart from the versions
abbrev pub is_formed : Data → Bool
is_formed spec =
    there_and is_text (get (codes "group") spec)
    && there_and has_names (get (codes "names") spec)
    && is_scope (text_in (get (codes "scope") spec))

-- a text among the names of what a definition says
abbrev pub name_in : List ℕ → Data → List ℕ
name_in name spec = text_in (option_and_then (get name) (get (codes "names") spec))

-- the schema of a version
abbrev pub schema_in : Data → Option Data
schema_in version = option_and_then (get (codes "openAPIV3Schema")) (get (codes "schema") version)

-- the schema of a version that has a name
abbrev pub named_schema : Data → Option Data
named_schema version = if there_and is_text (get (codes "name") version) then schema_in version else None
