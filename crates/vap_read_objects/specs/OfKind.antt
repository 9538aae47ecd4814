-- Objects of a kind, such as params, and Namespaces with their labels.
use Rattle.std.specs.Prelude.{ℕ, if◌then◌else◌, codes, List, [], ◌∷◌, Option, option_and_then}
use Rattle.std.specs.BTreeMap.{is_at}
use Rattle.std.specs.List.{flat_map}
use Rattle.std.specs.Map.{lookup}
use Rattle.vap_read.specs.Keys.{is_of, key_cmp}
use Rattle.vap_read.specs.declared.key.Key.{Key}
use Rattle.vap_read.specs.declared.object.Object.{Object}
use Rattle.vap_read_objects.specs.Classes.{is_namespace, of_class}
use Rattle.vap_match.specs.Select.{Labels, labels_of}

-- what is under a key, if that is one of this version and kind
unfoldable pub if_of_kind : List ℕ → List ℕ → Key → Object → List Object
if_of_kind api_version kind k o = if is_of api_version kind k then o ∷ [] else []

-- the objects of a version and kind, by namespace, then by name
abbrev pub objects_of_kind : List ℕ → List ℕ → List (Key × Object) → List Object
objects_of_kind api_version kind os = flat_map (λ e. if_of_kind api_version kind e.0 e.1) os

-- the object under a key
abbrev pub object_at : Key → List (Key × Object) → Option Object
object_at k os = lookup (is_at (key_cmp k)) os

-- the Namespaces by their keys
abbrev pub namespaces_in : List (Key × Object) → List (Key × Object)
namespaces_in os = of_class is_namespace os

-- the key of a Namespace, which is in no namespace
abbrev pub namespace_key : List ℕ → Key
namespace_key name = record { api_version = codes "v1"; kind = codes "Namespace"; namespace = []; name = name }

-- the labels of a Namespace: none if it is not there
abbrev pub labels_in : Option Object → Labels
labels_in namespace = option_and_then (λ o. labels_of o.document) namespace

-- the labels that are held for a Namespace
abbrev pub namespace_labels : List ℕ → List (Key × Object) → Labels
namespace_labels name os = labels_in (object_at (namespace_key name) os)
