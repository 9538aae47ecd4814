-- The kinds that are known without a definition (Kubernetes API reference, "ConfigMap", "Namespace").
use Rattle.std.specs.Prelude.{ℕ, Bool, true, false, codes, List, [], ◌∷◌, Some}
use Rattle.base_containers.specs.declared.text.Keyed.{Keyed}
use Rattle.base_containers.specs.Keys.{with_entry}
use Rattle.cel_value.specs.declared.cel_type.Field.{Field}
use Rattle.cel_value.specs.declared.cel_type.CelType as type
use Rattle.cel_value.specs.declared.cel_type.CelType.{CelType}
use Rattle.vap_schema.specs.FixedTypes.{with_fixed_fields}
use Rattle.vap_read_objects.specs.declared.kind.Kind.{Kind}

-- what a ConfigMap holds: texts by their names
abbrev pub data_type : CelType
data_type = type.Map 524287 253 (type.Text 1048576)

-- the one field that is a ConfigMap's own
abbrev pub data_fields : List (Keyed (Field CelType))
data_fields = with_entry (codes "data") (record { required = false; cel_type = data_type }) []

abbrev pub config_map_type : CelType
config_map_type = with_fixed_fields (type.Object data_fields)

abbrev pub namespace_type : CelType
namespace_type = with_fixed_fields (type.Object [])

-- a kind of the core group's version v1
abbrev pub core_kind : List ℕ → List ℕ → Bool → CelType → Kind
core_kind kind plural namespaced t = record {
  group = [];
  version = codes "v1";
  kind = kind;
  plural = plural;
  namespaced = namespaced;
  object_type = Some t;
}

-- texts by their names, in a namespace
abbrev pub config_map_kind : Kind
config_map_kind = core_kind (codes "ConfigMap") (codes "configmaps") true config_map_type

-- what other objects are in
abbrev pub namespace_kind : Kind
namespace_kind = core_kind (codes "Namespace") (codes "namespaces") false namespace_type

-- the kinds that are known without a definition
abbrev pub fixed_kinds : List Kind
fixed_kinds = config_map_kind ∷ namespace_kind ∷ []
